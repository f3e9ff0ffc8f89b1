-- Lists by their first byte: whether they start with a byte, and whether they are it alone. Assumes nothing.
use mathlib.Core.Path.{◌≡◌, refl}
use mathlib.Core.Bool.{true, false}
use mathlib.Core.List.{List, [], ◌∷◌}
use Prim.Native.Nat.{ℕ, ◌≤◌}
use native.Mathlib.Omega.{arith}
use lib.ListN.{length, get_or}
use borrow.Author.Tests.{eq-eqb, ne_eqb}
use Rattle.model.specs.Lists.{same, starts_with}
use Rattle.model.proofs.Lists.{other_length}

pub starts : (x : ℕ) (l : List ℕ) → 1 ≤ length l → get_or l 0 0 ≡ x → starts_with (x ∷ []) l ≡ true
unfolding starts_with
starts x [] h e = absurd (omega arith)
starts x (y ∷ l) h e = rw (eq-eqb y x e)

pub starts_not : (x : ℕ) (l : List ℕ) → (get_or l 0 0 ≡ x → ⊥) → starts_with (x ∷ []) l ≡ false
unfolding starts_with
starts_not x [] f = refl
starts_not x (y ∷ l) f = rw (ne_eqb y x f)

pub alone_not : (x : ℕ) (l : List ℕ) → (get_or l 0 0 ≡ x → length l ≡ 1 → ⊥) → same l (x ∷ []) ≡ false
unfolding same
alone_not x [] f = refl
alone_not x (y ∷ []) f = rw (ne_eqb y x (λ e. f e refl))
alone_not x (y ∷ z ∷ l) f = other_length (y ∷ z ∷ l) (x ∷ []) (λ e. omega arith)
