-- Lists split at an end byte: the first stretch, and the stretches after it. Assumes nothing.
use mathlib.Core.Path.{◌≡◌, refl}
use mathlib.Core.List.{List, [], ◌∷◌, ◌++◌}
use Prim.Native.Nat.{ℕ, suc, ◌<◌}
use native.Mathlib.Omega.{arith}
use lib.Dec.{eqb}
use lib.ListN.{length, take, drop}
use borrow.Author.Tests.{eq-eqb, ne_eqb}
use Rattle.model.specs.Lists.{span, All}
use Rattle.calls.specs.Reply.{split}
use Rattle.model.proofs.Lists.{by_test}

-- Of a list that is not empty the first stretch goes up to the first end byte, and the others are those of what follows it.
pub split-first : (x : ℕ) (ys : List ℕ) → 0 < length ys → split x ys ≡ take (span x ys) ys ∷ split x (drop (suc (span x ys)) ys)
unfolding split span
split-first x [] h = absurd (omega arith)
split-first x (y ∷ []) h = by_test (eqb y x) (λ t. rw t refl) (λ t. rw t refl)
split-first x (y ∷ z ∷ zs) h = by_test (eqb y x)
    (λ t. rw t refl)
    (λ t. let others = split-first x (z ∷ zs) (omega arith) in rw (t, others) refl)

pub split_piece : (x : ℕ) (p others : List ℕ) → All (λ y. y ≡ x → ⊥) p → split x (p ++ (x ∷ others)) ≡ p ∷ split x others
unfolding split All
split_piece x [] others h = rw (eq-eqb x x refl) refl
split_piece x (y ∷ p) others h = rw (ne_eqb y x h.0, split_piece x p others h.1) refl
