-- `literals::zero` meets its contract. Assumes nothing.
use mathlib.Core.Path.{refl}
use native.Mathlib.Omega.{arith}
use Rattle.model.specs.Sheet.{sheet_of, constraint}
use Rattle.formula.specs.Clause.{terms}
use Rattle.formula.proofs.Integers.{sum_zero}
use Rattle.codes.specs.Nine.{nine}
use Rattle.codes.proofs.Laws.{same-nine}
use Rattle.literals.proofs.zero.Goals as goal

pub sum_code-requires : goal.sum_code-requires
sum_code-requires c =
    let s = sheet_of c.args.sheet.now in
    (c.requires.0, (c.requires.1, omega arith, sum_zero s (constraint s c.args.r)))

pub returns : goal.returns
unfolding nine terms
returns c = same-nine (omega (arith, c.sum_code.ensures)) refl refl refl
