-- Signed numbers as the code has them: what is stored is read back; and two's complement, the unsigned number, widened, less the whole,
-- narrowed. Stated over the widths. Assumes nothing.
use mathlib.Core.Path.{◌≡◌, sym, ap, subst, ◌∙◌}
use Prim.Native.Nat.{ℕ, suc, ◌+◌, ◌-◌, ◌^◌, ◌<◌, ◌≤◌}
use native.Mathlib.Omega.{arith}
use lib.IntN.{ℤ, pos, negsuc, nat_abs, ◌-ℤ◌}
use mir.Syntax.{Width}
use mir.Val.{SFits, to_z, of_z, hbits}
use mir.ValLaws.{to_z_pos, to_z-of_z}
use Rattle.model.specs.Sheet.{signed}
use Rattle.model.proofs.Signed.{Signed, less, signed_low, signed_high, signed_in, abs_signed}

-- What is stored is read back, of a signed number of the width; and of one of small magnitude.
signed-fits : (w : Width) (z : ℤ) → Signed (2 ^ hbits w) z → SFits w z
signed-fits w (pos n) h = record { sfits = omega arith }
signed-fits w (negsuc n) h = record { sfits = omega arith }

pub signed_back : (w : Width) (z : ℤ) → Signed (2 ^ hbits w) z → to_z w (of_z w z) ≡ z
signed_back w z h = to_z-of_z w z (signed-fits w z h)

pub small-fits : (w : Width) (z : ℤ) → nat_abs z < 2 ^ hbits w → SFits w z
small-fits w z h = signed-fits w z (abs_signed (2 ^ hbits w) z h)

pub small_back : (w : Width) (z : ℤ) → nat_abs z < 2 ^ hbits w → to_z w (of_z w z) ≡ z
small_back w z h = signed_back w z (abs_signed (2 ^ hbits w) z h)

pub stored : (w : Width) (half n : ℕ) → half ≡ 2 ^ hbits w → n < half + half → to_z w (of_z w (signed half n)) ≡ signed half n
stored w half n e h = signed_back w (signed half n) (subst (λ k. Signed k (signed half n)) e (signed_in half n h))

module _ (w wide : Width) (half n : ℕ) (whole : half ≡ 2 ^ hbits w) (fits : half + half < 2 ^ hbits wide) where
  pub low_half : n < half → to_z w n ≡ signed half n
  low_half h = to_z_pos w n (omega arith) ∙ sym (signed_low half n h)

  module _ (h : half ≤ n) (g : n < half + half) where
    difference : to_z wide n -ℤ pos (half + half) ≡ negsuc (half + half - suc n)
    difference = ap (λ z. z -ℤ pos (half + half)) (to_z_pos wide n (omega arith)) ∙ less n (half + half) g

    pub high_fits : SFits wide (to_z wide n -ℤ pos (half + half))
    high_fits = rw difference (record { sfits = omega arith })

    back : to_z wide (of_z wide (to_z wide n -ℤ pos (half + half))) ≡ negsuc (half + half - suc n)
    back = to_z-of_z wide _ high_fits ∙ difference

    pub high_narrows : SFits w (to_z wide (of_z wide (to_z wide n -ℤ pos (half + half))))
    high_narrows = rw back (record { sfits = omega arith })

    pub high_half : to_z w (of_z w (to_z wide (of_z wide (to_z wide n -ℤ pos (half + half))))) ≡ signed half n
    high_half = to_z-of_z w _ high_narrows ∙ back ∙ sym (signed_high half n h g)
