-- `sums::next_code` meets its contract: all sums are small, so that what is stored is read back, and how far the next sum is above the least is the code's offset. Assumes nothing.
use mathlib.Core.Path.{◌≡◌, ap, ◌∙◌}
use Prim.Native.Nat.{ℕ, ◌+◌, ◌*◌, ◌≤◌}
use native.Mathlib.Omega.{arith}
use Rattle.model.proofs.Sums.{abs_add, product_small}
use lib.IntN.{ℤ, pos, nat_abs, ◌+ℤ◌, ◌-ℤ◌, ◌*ℤ◌}
use mir.Syntax.{w8, w16}
use mir.Val.{to_z, of_z}
use Rattle.scan.proofs.Machine.{small_back}
use Rattle.scan.proofs.Terms.{product_back}
use Rattle.sums.specs.Codes.{Added}
use Rattle.sums.proofs.next_code.Goals as goal

-- the sum, and what it is above the least, as the machine has them
module _ {first : ℕ} {low c n : ℤ} {d : ℕ} (h : Added first low c n d) where
  abbrev stored : ℤ
  stored = to_z w16 (of_z w16 n) +ℤ to_z w16 (of_z w16 (to_z w16 (of_z w16 (to_z w8 (of_z w8 c))) *ℤ to_z w16 d))

  sum_is : stored ≡ n +ℤ c *ℤ pos d
  sum_is = rw (small_back w16 n (omega (arith, h.sum_few)), product_back c d h.coefficient_few h.length_few)

  sum_small : nat_abs (n +ℤ c *ℤ pos d) ≤ 416
  sum_small = omega (arith, abs_add n (c *ℤ pos d), product_small c d h.coefficient_few h.length_few, h.sum_few)

  stored_back : to_z w16 (of_z w16 stored) ≡ n +ℤ c *ℤ pos d
  stored_back = rw sum_is (small_back w16 (n +ℤ c *ℤ pos d) (omega (arith, sum_small)))

  offset_is : to_z w16 (of_z w16 stored) -ℤ to_z w16 (of_z w16 low) ≡ n +ℤ c *ℤ pos d -ℤ low
  offset_is = rw (stored_back, small_back w16 low (omega (arith, h.low_few)))

pub returns : goal.returns
returns c =
    let offset = rw (c.from.ensures, offset_is c.requires) at (c.from-2.ensures ∙ c.abs_diff.ensures) in
    ap (λ k. c.args.first + 2 * k) offset
