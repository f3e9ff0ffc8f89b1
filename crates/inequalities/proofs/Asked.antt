-- Laws of specs/Asked: one element more, all of them, what holds of every element; and the length of each text. Assumes nothing.
use mathlib.Core.Path.{◌≡◌, refl, sym, ap, ◌∙◌}
use mathlib.Core.Bool.{Bool, true, false}
use mathlib.Core.List.{List, [], ◌∷◌, ◌++◌, append_assoc, append-nil}
use Prim.Native.Nat.{ℕ, zero, suc, ◌+◌, ◌<◌, ◌≤◌}
use native.Mathlib.Numerals.{add-one}
use native.Mathlib.Omega.{arith}
use lib.ListN.{length, get_or, take}
use Rattle.model.specs.Lists.{when, All}
use Rattle.model.specs.Word.{Substitution, text}
use Rattle.model.proofs.Lists.{append_in}
use Rattle.model.proofs.Keeping.{when_in, one_in, map-from-at}
use Rattle.inequalities.specs.Asked.{asked, lengths_of}

module _ {A : Type 0} where
  pub asked-none : (ms : List Bool) → asked {A = A} ms [] ≡ []
  unfolding asked
  asked-none [] = refl
  asked-none (m ∷ ms) = refl

  asked_suc : (ms : List Bool) (xs : List A) (p : ℕ) (d : A) → p < length xs → asked ms (take (suc p) xs) ≡ asked ms (take p xs) ++ when (get_or ms p false) (get_or xs p d ∷ [])
  unfolding asked
  asked_suc [] xs p d h = refl
  asked_suc (m ∷ ms) [] p d h = absurd (omega arith)
  asked_suc (m ∷ ms) (x ∷ xs) zero d h = ap (λ z. when m (x ∷ []) ++ z) (asked-none ms) ∙ append-nil (when m (x ∷ []))
  asked_suc (m ∷ ms) (x ∷ xs) (suc p) d h =
      ap (λ z. when m (x ∷ []) ++ z) (asked_suc ms xs p d (omega arith))
      ∙ sym (append_assoc (when m (x ∷ [])) (asked ms (take p xs)) (when (get_or ms p false) (get_or xs p d ∷ [])))

  pub asked_next : (ms : List Bool) (xs : List A) (p : ℕ) (d : A) → p < length xs → asked ms (take (p + 1) xs) ≡ asked ms (take p xs) ++ when (get_or ms p false) (get_or xs p d ∷ [])
  asked_next ms xs p d h = rw add-one (asked_suc ms xs p d h)

  -- a sheet has at most four equations and four constraints
  pub asked-all : (xs : List A) → length xs ≤ 4 → asked (true ∷ true ∷ true ∷ true ∷ []) xs ≡ xs
  unfolding asked
  asked-all [] h = refl
  asked-all (a ∷ []) h = refl
  asked-all (a ∷ b ∷ []) h = refl
  asked-all (a ∷ b ∷ c ∷ []) h = refl
  asked-all (a ∷ b ∷ c ∷ d ∷ []) h = refl
  asked-all (a ∷ b ∷ c ∷ d ∷ e ∷ xs) h = absurd (omega arith)

  pub asked_in : (P : A → Type 0) (ms : List Bool) (xs : List A) → All P xs → All P (asked ms xs)
  unfolding asked All
  asked_in P [] xs h = tt
  asked_in P (m ∷ ms) [] h = tt
  asked_in P (m ∷ ms) (x ∷ xs) h = append_in P (when m (x ∷ [])) (asked ms xs) (when_in P m (x ∷ []) (λ e. one_in P h.0)) (asked_in P ms xs h.1)

pub lengths_at : (g : Substitution) (f : ℕ) → f < 6 → get_or (lengths_of g) f 0 ≡ length (text g f)
unfolding lengths_of
lengths_at g f h = let e : 0 + f ≡ f = omega arith in map-from-at (λ k. length (text g k)) 0 0 6 f h ∙ ap (λ k. length (text g k)) e
