-- Minus a number, as the code has it. Assumes nothing.
use mathlib.Core.Path.{◌≡◌, ap, ◌∙◌}
use Prim.Native.Nat.{ℕ, ◌<◌}
use native.Mathlib.Omega.{arith}
use lib.IntN.{ℤ, pos, neg_ℤ, ◌-ℤ◌, +ℤ_idl}
use mir.Syntax.{w64}
use mir.Val.{SFits, to_z, of_z}
use mir.ValLaws.{to_z_pos}
use Rattle.model.proofs.Sums.{abs_neg}
use Rattle.scan.proofs.Machine.{small-fits, small_back}

module _ (n : ℕ) (small : n < 256) where
  difference : pos 0 -ℤ to_z w64 n ≡ neg_ℤ (pos n)
  difference = ap (λ z. pos 0 -ℤ z) (to_z_pos w64 n (omega arith)) ∙ +ℤ_idl (neg_ℤ (pos n))

  pub minus_fits : SFits w64 (pos 0 -ℤ to_z w64 n)
  minus_fits = rw difference (small-fits w64 (neg_ℤ (pos n)) (omega (arith, abs_neg n)))

  pub minus_stored : to_z w64 (of_z w64 (neg_ℤ (pos n))) ≡ neg_ℤ (pos n)
  minus_stored = small_back w64 (neg_ℤ (pos n)) (omega (arith, abs_neg n))

  pub minus_is : to_z w64 (of_z w64 (pos 0 -ℤ to_z w64 n)) ≡ neg_ℤ (pos n)
  minus_is = rw difference minus_stored

  -- the same of the byte read as a signed number
  pub minus_read : {z : ℤ} → z ≡ pos n → to_z w64 (of_z w64 (pos 0 -ℤ to_z w64 (of_z w64 z))) ≡ neg_ℤ (pos n)
  minus_read e = rw e minus_is

-- a refusal's number, negated and handed over
pub minus_told : {n k : ℕ} {r : ℤ} → k ≡ n → (r ≡ neg_ℤ (pos k)) × (k < 256) → to_z w64 (of_z w64 r) ≡ neg_ℤ (pos n)
minus_told {n} {k} e h = rw (h.0, e) (minus_stored n (omega (arith, h.1)))
