-- `numbering::variable_count` meets its contract. Assumes nothing.
use native.Mathlib.Omega.{arith}
use Rattle.model.specs.Sheet.{sheet_of}
use Rattle.formula.specs.Numbering.{variable_count}
use Rattle.formula.proofs.Small.{variables-small}
use Rattle.numbering.proofs.variable_count.Goals as goal

pub returns : goal.returns
unfolding variable_count
returns c =
    let at-whole = c.whole in
    let s = sheet_of c.args.sheet.now in
    let small = variables-small s c.requires.1 in
    (omega (arith, at-whole.ensures.0, c.whole-2.ensures.0, c.whole-3.ensures.0), omega (arith, at-whole.ensures.0, c.whole-2.ensures.0, c.whole-3.ensures.0))
