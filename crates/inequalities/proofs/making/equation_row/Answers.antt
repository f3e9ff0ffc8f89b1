-- `inequalities::making::equation_row` meets its contract: field by field. Assumes nothing.
use mathlib.Core.Path.{◌≡◌}
use mathlib.Core.List.{map}
use native.Mathlib.Omega.{arith}
use Rattle.model.specs.Sheet.{symbol_of}
use Rattle.inequalities.specs.Rows.{equation_row, excess}
use Rattle.inequalities.proofs.Steps.{written_all}
use Rattle.inequalities.proofs.making.equation_row.Goals as goal

pub returns : goal.returns
unfolding equation_row
returns c =
    let left = map symbol_of c.args.left.now in
    let right = map symbol_of c.args.right.now in
    let all : c.loop-f.f ≡ 6 = omega arith in
    rw (c.occurrences.ensures, c.occurrences-2.ensures)
    (written_all c.loop-f.row (excess left right) (excess right left) _ _ (rw all at c.loop-f.invariant))
