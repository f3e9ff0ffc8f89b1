-- Where the first end byte of a list stands. Assumes nothing.
use mathlib.Core.Path.{◌≡◌}
use mathlib.Core.List.{List, [], ◌∷◌}
use Prim.Native.Nat.{ℕ, suc, ◌+◌, ◌<◌, ◌≤◌}
use native.Mathlib.Omega.{arith}
use native.Mathlib.Numerals.{add-one}
use lib.Dec.{eqb}
use lib.ListN.{length, get_or, take, drop, drop_of_length-le}
use lib.Seq.{drop-cons}
use borrow.Author.Tests.{eq-eqb, ne_eqb, eqb-false}
use Rattle.model.specs.Lists.{span, All}
use Rattle.model.proofs.Lists.{by_test}

-- The first end byte stands within the list, or else the list ends.
pub span-short : (x : ℕ) (ys : List ℕ) → span x ys ≤ length ys
unfolding span
span-short x [] = omega arith
span-short x (y ∷ ys) = by_test (eqb y x) (λ t. rw t (omega arith)) (λ t. rw t (let h = span-short x ys in omega arith))

-- There is none before it.
pub before_end : (x : ℕ) (ys : List ℕ) → All (λ y. y ≡ x → ⊥) (take (span x ys) ys)
unfolding span All
before_end x [] = tt
before_end x (y ∷ ys) = by_test (eqb y x)
    (λ t. rw t tt)
    (λ t. rw t ((eqb-false y x t, before_end x ys)))

-- From index i on it stands here, later, or nowhere.
module _ (x : ℕ) (ys : List ℕ) (i : ℕ) where
  pub span_here : i < length ys → get_or ys i 0 ≡ x → span x (drop i ys) ≡ 0
  unfolding span
  span_here h e = rw (drop-cons ys i 0, eq-eqb _ _ e)

  pub span-later : i < length ys → (get_or ys i 0 ≡ x → ⊥) → span x (drop i ys) ≡ suc (span x (drop (i + 1) ys))
  unfolding span
  span-later h e = rw (add-one, drop-cons ys i 0, ne_eqb _ _ e)

  pub span_nowhere : length ys ≤ i → span x (drop i ys) ≡ 0
  unfolding span
  span_nowhere h = rw (drop_of_length-le ys h)
