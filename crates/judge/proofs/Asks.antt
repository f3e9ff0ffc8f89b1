-- How many pass a test before the first that does not, as code counts them. Assumes nothing.
use mathlib.Core.Path.{◌≡◌, ap, ◌∙◌}
use mathlib.Core.Bool.{Bool, true, false}
use mathlib.Core.List.{List}
use Prim.Native.Nat.{ℕ, zero, suc, ◌+◌, ◌<◌, ◌≤◌}
use native.Mathlib.Omega.{arith}
use lib.Dec.{ltb}
use lib.ListN.{length, get_or, drop}
use borrow.Author.Tests.{ltb-true, ltb-false}
use Rattle.model.specs.Lists.{leading}
use Rattle.model.proofs.Lists.{by_test}
use Rattle.model.proofs.Leading.{leading_here, leading-ends, leading-whole}

-- the same from number i on, one element after the other: those from i to n pass, and the n-th does not
from-on : {A : Type 0} (p : A → Bool) (xs : List A) (d : A) (n k i : ℕ) → i + k ≡ n → n ≤ length xs
    → ((j : ℕ) → j < n → p (get_or xs j d) ≡ true) → (n < length xs → p (get_or xs n d) ≡ false) → leading p (drop i xs) ≡ k
from-on p xs d n zero i e h before first =
    by_test (ltb i (length xs))
    (λ t. let is : i ≡ n = omega arith in
    leading-ends p xs i d (ltb-true i (length xs) t) (ap (λ m. p (get_or xs m d)) is ∙ first (omega (arith, ltb-true i (length xs) t))))
    (λ t. leading-whole p xs i d (ltb-false i (length xs) t))
from-on p xs d n (suc k) i e h before first =
    leading_here p xs i d (omega arith) (before i (omega arith)) ∙ ap suc (from-on p xs d n k (i + 1) (omega arith) h before first)

pub leading_is : {A : Type 0} (p : A → Bool) (xs : List A) (d : A) (n : ℕ) → n ≤ length xs
    → ((i : ℕ) → i < n → p (get_or xs i d) ≡ true) → (n < length xs → p (get_or xs n d) ≡ false) → leading p xs ≡ n
leading_is p xs d n h before first = from-on p xs d n n 0 (omega arith) h before first
