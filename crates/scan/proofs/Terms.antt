-- One term of a constraint's sum, and the sum, as the code has them: a signed byte times a length, in signed 16 bits. Assumes nothing.
use mathlib.Core.Path.{◌≡◌}
use Prim.Native.Nat.{ℕ, ◌≤◌}
use native.Mathlib.Omega.{arith}
use lib.IntN.{ℤ, pos, nat_abs, ◌*ℤ◌}
use mir.Syntax.{w8, w16}
use mir.Val.{SFits, to_z, of_z}
use mir.ValLaws.{to_z_pos}
use Rattle.model.specs.Range.{Signed16}
use Rattle.model.proofs.Signed.{signed16_out}
use Rattle.model.proofs.Sums.{product_small}
use Rattle.scan.proofs.Machine.{signed_back, small-fits, small_back}

-- a constraint's limit
pub most_back : (z : ℤ) → Signed16 z → to_z w16 (of_z w16 z) ≡ z
most_back z h = signed_back w16 z (signed16_out z h)

module _ (c : ℤ) (n : ℕ) (small : nat_abs c ≤ 4) (short : n ≤ 8) where
  pub wide_fits : SFits w16 (to_z w8 (of_z w8 c))
  wide_fits = rw (small_back w8 c (omega arith)) (small-fits w16 c (omega arith))

  pub product : to_z w16 (of_z w16 (to_z w8 (of_z w8 c))) *ℤ to_z w16 n ≡ c *ℤ pos n
  product = rw (small_back w8 c (omega arith), small_back w16 c (omega arith), to_z_pos w16 n (omega arith))

  pub product_fits : SFits w16 (to_z w16 (of_z w16 (to_z w8 (of_z w8 c))) *ℤ to_z w16 n)
  product_fits = rw product (small-fits w16 (c *ℤ pos n) (omega (arith, product_small c n small short)))

  pub product_back : to_z w16 (of_z w16 (to_z w16 (of_z w16 (to_z w8 (of_z w8 c))) *ℤ to_z w16 n)) ≡ c *ℤ pos n
  product_back = rw product (small_back w16 (c *ℤ pos n) (omega (arith, product_small c n small short)))
