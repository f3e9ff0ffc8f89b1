-- `rows::coefficient_passes` meets its contract. Assumes nothing.
use native.Mathlib.Omega.{arith}
use Rattle.scan.proofs.Words.{signed_one}
use Rattle.rows.proofs.coefficient_passes.Goals as goal

pub returns : goal.returns
returns c = rw (c.unsigned_abs.ensures.value, c.cast_signed.ensures, signed_one c.args.x (omega arith))
