-- `literals::start` meets its contract. Assumes nothing.
use mathlib.Core.Path.{refl}
use native.Mathlib.Omega.{arith}
use Rattle.formula.specs.Clause.{terms}
use Rattle.codes.specs.Nine.{nine}
use Rattle.codes.proofs.Laws.{same-nine}
use Rattle.literals.proofs.start.Goals as goal

pub returns : goal.returns
unfolding nine terms
returns c = same-nine (omega (arith, c.location_code.ensures)) refl refl refl
