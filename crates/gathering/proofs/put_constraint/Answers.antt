-- `gathering::put_constraint` meets its contract. Assumes nothing.
use mathlib.Core.Path.{ap, ◌∙◌}
use Prim.Native.Nat.{◌*◌}
use Rattle.model.specs.Lists.{placed}
use Rattle.model.specs.Sheet.{sheet_of, constraint}
use Rattle.inequalities.proofs.Agreement.{constraint-row_size}
use Rattle.gathering.proofs.Steps.{no_rows, one_row}
use Rattle.gathering.proofs.put_constraint.Goals as goal

pub returns-then-not-mark : goal.returns-then-not-mark
returns-then-not-mark c =
    let a = c.args in
    no_rows a.i a.rows.now a.mark _ c.if-not-mark.true

pub returns : goal.returns
returns c =
    let a = c.args in
    let put = c.put_row in
    let made = c.constraint_row in
    let r = constraint (sheet_of a.sheet.now) a.r in
    rw c.if-not-mark.false
    (one_row a.i a.rows.now put.new.rows _ (constraint-row_size r) (put.ensures ∙ ap (placed a.rows.now (14 * a.i)) made.ensures))
