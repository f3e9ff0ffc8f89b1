-- `gathering::put_equation` meets its contract: the templates are the equation's, and their rows are put one after the other. Assumes nothing.
use mathlib.Core.Path.{ap, ap₂, ◌∙◌}
use Prim.Native.Nat.{◌+◌, ◌*◌}
use native.Mathlib.Omega.{arith}
use Rattle.model.specs.Lists.{placed}
use Rattle.model.specs.Sheet.{sheet_of, equation}
use Rattle.shape.proofs.Laws.{symbols-are}
use Rattle.inequalities.specs.Rows.{equation_row}
use Rattle.inequalities.proofs.Agreement.{equation-row_size}
use Rattle.gathering.proofs.Steps.{template-short, no_rows, two_rows}
use Rattle.gathering.proofs.put_equation.Goals as goal

pub returns-then-not-mark : goal.returns-then-not-mark
returns-then-not-mark c =
    let a = c.args in
    no_rows a.i a.rows.now a.mark _ c.if-not-mark.true

-- both templates are short, and what they say
pub equation_row-requires : goal.equation_row-requires
equation_row-requires c =
    let one = template-short c.args.sheet.now c.requires.0 c.args.p c.requires.1 in
    (one 0 c.template-left.result.now c.template-left.ensures, one 1 c.template-right.result.now c.template-right.ensures)

pub equation_row-requires-2 : goal.equation_row-requires-2
equation_row-requires-2 c =
    let one = template-short c.args.sheet.now c.requires.0 c.args.p c.requires.1 in
    (one 1 c.template-right.result.now c.template-right.ensures, one 0 c.template-left.result.now c.template-left.ensures)

pub put_row-requires : goal.put_row-requires
put_row-requires c = omega (arith, c.requires.2)

pub put_row-requires-2 : goal.put_row-requires-2
put_row-requires-2 c = omega (arith, c.requires.2, c.put_row.auto.rows)

pub shape_of-rows : goal.shape_of-rows
shape_of-rows c = c.put_row-2.auto.rows ∙ c.put_row.auto.rows

pub returns : goal.returns
returns c =
    let a = c.args in
    let e = equation (sheet_of a.sheet.now) a.p in
    let first = c.put_row in
    let second = c.put_row-2 in
    let left = symbols-are a.sheet.now c.requires.0 a.p c.requires.1 0 c.template-left.result.now c.template-left.ensures in
    let right = symbols-are a.sheet.now c.requires.0 a.p c.requires.1 1 c.template-right.result.now c.template-right.ensures in
    rw c.if-not-mark.false
    (two_rows a.i a.rows.now first.new.rows second.new.rows _ _ (equation-row_size e.left e.right) (equation-row_size e.right e.left)
    c.requires.2
    (first.ensures ∙ ap (placed a.rows.now (14 * a.i)) (c.equation_row.ensures ∙ ap₂ equation_row left right))
    (second.ensures ∙ ap (placed first.new.rows (14 * (a.i + 1))) (c.equation_row-2.ensures ∙ ap₂ equation_row right left)))
