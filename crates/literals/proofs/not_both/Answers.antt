-- `literals::not_both` meets its contract. Assumes nothing.
use mathlib.Core.Path.{refl}
use Rattle.formula.specs.Clause.{terms}
use Rattle.codes.specs.Nine.{nine}
use Rattle.codes.proofs.Laws.{same-nine}
use Rattle.literals.proofs.not_both.Goals as goal

pub returns : goal.returns
unfolding nine terms
returns c = same-nine c.place_code-x.ensures c.place_code-y.ensures refl refl
