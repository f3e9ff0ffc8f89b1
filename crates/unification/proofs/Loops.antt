-- A list whose first k elements have been replaced by their images: what a loop over an array has made after k turns.
-- Assumes nothing.
use mathlib.Core.Path.{◌≡◌, refl, ap}
use mathlib.Core.List.{List, [], ◌∷◌, map}
use Prim.Native.Nat.{ℕ, zero, suc, ◌+◌, ◌<◌, ◌≤◌}
use native.Mathlib.Omega.{arith}
use native.Mathlib.Numerals.{add-one}
use lib.ListN.{length, get_or, set}

unfoldable pub mapped : {A : Type 0} → (A → A) → List A → ℕ → List A
mapped F [] k = []
mapped F (x ∷ l) zero = x ∷ l
mapped F (x ∷ l) (suc k) = F x ∷ mapped F l k

module _ {A : Type 0} (F : A → A) (d : A) where
  pub mapped_none : (l : List A) → l ≡ mapped F l 0
  unfolding mapped
  mapped_none [] = refl
  mapped_none (x ∷ l) = refl

  mapped_suc : (l : List A) (k : ℕ) → k < length l → set (mapped F l k) k (F (get_or l k d)) ≡ mapped F l (suc k)
  unfolding mapped
  mapped_suc [] k h = absurd (omega arith)
  mapped_suc (x ∷ []) zero h = refl
  mapped_suc (x ∷ y ∷ l) zero h = refl
  mapped_suc (x ∷ l) (suc k) h = ap (λ (z : List A). F x ∷ z) (mapped_suc l k (omega arith))

  pub mapped_next : (l : List A) (k : ℕ) → k < length l → set (mapped F l k) k (F (get_or l k d)) ≡ mapped F l (k + 1)
  mapped_next l k h = rw add-one (mapped_suc l k h)

  pub mapped_all : (l : List A) (k : ℕ) → length l ≤ k → mapped F l k ≡ map F l
  unfolding mapped
  mapped_all [] k h = refl
  mapped_all (x ∷ l) zero h = absurd (omega arith)
  mapped_all (x ∷ l) (suc k) h = ap (λ (z : List A). F x ∷ z) (mapped_all l k (omega arith))
