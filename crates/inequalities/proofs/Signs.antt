-- A signed number of 16 bits as the code has it: read back, widened and negated; and its parts by its sign. Assumes nothing.
use mathlib.Core.Path.{◌≡◌, refl, sym}
use mathlib.Core.Bool.{true, false}
use Prim.Native.Nat.{◌≤◌}
use native.Mathlib.Omega.{arith}
use lib.Dec.{T}
use lib.IntN.{ℤ, pos, negsuc, neg_ℤ, nat_abs, ◌-ℤ◌}
use lib.Signed.{lt_z, non_neg}
use borrow.Author.Tests.{ltb-true, ltb-false}
use mir.Syntax.{w16, w32}
use mir.Val.{Fits, SFits, to_z, of_z}
use mir.ValLaws.{to_z-of_z}
use Rattle.model.proofs.Lists.{never}
use Rattle.model.proofs.Sums.{abs_neg, abs_add}
use Rattle.scan.proofs.Machine.{small-fits, small_back}
use Rattle.inequalities.specs.Rows.{positive, negative}

small : (n : ℤ) → SFits w16 n → nat_abs n ≤ 32768
small (pos a) ok = omega (arith, ok.sfits)
small (negsuc a) ok = omega (arith, ok.sfits)

opposite_small : (n : ℤ) → nat_abs (pos 0 -ℤ n) ≤ nat_abs n
opposite_small n = let h = abs_add (pos 0) (neg_ℤ n) in let k = opposite_abs n in omega arith
  where
    opposite_abs : (n : ℤ) → nat_abs (neg_ℤ n) ≡ nat_abs n
    opposite_abs (pos a) = abs_neg a
    opposite_abs (negsuc a) = refl

module _ (n : ℤ) (ok : SFits w16 n) where
  pub back : to_z w16 (of_z w16 n) ≡ n
  back = to_z-of_z w16 n ok

  pub wide_fits : SFits w32 (to_z w16 (of_z w16 n))
  wide_fits = rw back (small-fits w32 n (omega (arith, small n ok)))

  wide_back : to_z w32 (of_z w32 (to_z w16 (of_z w16 n))) ≡ n
  wide_back = rw back (small_back w32 n (omega (arith, small n ok)))

  pub opposite_fits : SFits w32 (pos 0 -ℤ to_z w32 (of_z w32 (to_z w16 (of_z w16 n))))
  opposite_fits = rw wide_back (small-fits w32 (pos 0 -ℤ n) (omega (arith, small n ok, opposite_small n)))

  pub opposite_back : to_z w32 (of_z w32 (pos 0 -ℤ to_z w32 (of_z w32 (to_z w16 (of_z w16 n))))) ≡ pos 0 -ℤ n
  opposite_back = rw wide_back (small_back w32 (pos 0 -ℤ n) (omega (arith, small n ok, opposite_small n)))

  pub opposite_narrows : Fits w16 (nat_abs (pos 0 -ℤ n))
  opposite_narrows = record { fits = omega (arith, small n ok, opposite_small n) }

  pub narrows : Fits w16 (nat_abs n)
  narrows = record { fits = omega (arith, small n ok) }

-- The parts of a number above 0 and of any other, and of one below 0 and of any other.
pub above_zero : (n : ℤ) → lt_z (pos 0) n ≡ true → T (non_neg n) × (nat_abs n ≡ positive n)
above_zero (pos a) h = (tt, refl)
above_zero (negsuc a) h = never h

pub not_above_zero : (n : ℤ) → lt_z (pos 0) n ≡ false → 0 ≡ positive n
not_above_zero (pos a) h = let k = ltb-false 0 a h in omega arith
not_above_zero (negsuc a) h = refl

pub below_zero : (n : ℤ) → lt_z n (pos 0) ≡ true → T (non_neg (pos 0 -ℤ n)) × (nat_abs (pos 0 -ℤ n) ≡ negative n)
below_zero (pos a) h = let k = ltb-true a 0 h in absurd (omega arith)
below_zero (negsuc a) h = (tt, omega arith)

pub not_below_zero : (n : ℤ) → lt_z n (pos 0) ≡ false → 0 ≡ negative n
not_below_zero (pos a) h = refl
not_below_zero (negsuc a) h = never (sym h)
