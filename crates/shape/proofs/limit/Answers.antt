-- `shape::limit` meets its contract. Assumes nothing.
use mathlib.Core.Path.{◌∙◌}
use native.Mathlib.Omega.{arith}
use Rattle.model.specs.Sheet.{sheet_of}
use Rattle.formula.proofs.Small.{limit-small}
use Rattle.shape.proofs.limit.Goals as goal

pub returns : goal.returns
returns c =
    let small = limit-small (sheet_of c.args.sheet.now) c.requires.0.1 c.args.f in
    (c.from.ensures ∙ c.limit.ensures, omega (arith, c.from.ensures, c.limit.ensures))
