-- Tests that the code writes in another way than the definitions do. Assumes nothing.
use mathlib.Core.Path.{◌≡◌, refl, sym, ◌∙◌}
use mathlib.Core.Bool.{true, false}
use Prim.Native.Nat.{ℕ, suc, ◌+◌, ◌-◌, ◌≤◌}
use native.Mathlib.Omega.{arith}
use lib.Dec.{ltb, leb}
use lib.IntN.{ℤ, pos, negsuc, nat_abs}
use lib.Signed.{lt_z, le_z}
use borrow.Author.Tests.{lt-ltb, le-ltb, le-leb, lt-leb, ltb-true, ltb-false}
use Rattle.model.proofs.Lists.{never, by_test}

-- a difference below a number
pub shifted : (k x n : ℕ) → k ≤ x → ltb (x - k) n ≡ ltb x (k + n)
shifted k x n h =
    by_test (ltb (x - k) n)
    (λ e. let g = ltb-true (x - k) n e in e ∙ sym (lt-ltb x (k + n) (omega arith)))
    (λ e. let g = ltb-false (x - k) n e in e ∙ sym (le-ltb x (k + n) (omega arith)))

-- a number from -4 to 4
pub below_range : (z : ℤ) → lt_z z (negsuc 3) ≡ true → false ≡ leb (nat_abs z) 4
below_range (pos n) h = never h
below_range (negsuc n) h = let g = ltb-true 3 n h in sym (lt-leb (suc n) 4 (omega arith))

pub from_range : (z : ℤ) → lt_z z (negsuc 3) ≡ false → le_z z (pos 4) ≡ leb (nat_abs z) 4
from_range (pos n) h = refl
from_range (negsuc n) h = let g = ltb-false 3 n h in sym (le-leb (suc n) 4 (omega arith))
