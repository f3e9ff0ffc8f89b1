-- `rows::row` meets its contract. The loop's invariant: what is left of the row, after the last byte read, gives what the whole row gives. Assumes nothing.
use mathlib.Core.Path.{refl, sym, ap, ◌∙◌}
use native.Mathlib.Omega.{arith}
use borrow.Author.Tests.{not-true, not-false}
use Rattle.model.specs.Sheet.{fault}
use Rattle.rows.specs.Progress.{role_of}
use Rattle.rows.proofs.Rows.{row_starts, row-lacks, row_goes, row_faults, row_done}
use Rattle.rows.proofs.row.Goals as goal

pub loop-i-init : goal.loop-i-init
loop-i-init c =
    let a = c.args in
    (omega arith, row_starts (role_of a.role) a.sheet.now a.at a.n 0 0 refl)

pub returns-then-sheet-at : goal.returns-then-sheet-at
returns-then-sheet-at c =
    let at-loop = c.loop-i in
    let a = c.args in
    let l = at-loop in
    record { result_value = sym (l.invariant.1 ∙ row-lacks (role_of a.role) a.sheet.now a.at a.n l.i l.before (omega arith) (omega arith)); landed = tt }

pub returns-then-not-role_passes : goal.returns-then-not-role_passes
returns-then-not-role_passes c =
    let at-loop = c.loop-i in
    let at-role-passes = c.role_passes in
    let a = c.args in
    let l = at-loop in
    record { result_value = ap fault c.role_fault.ensures ∙ sym (l.invariant.1 ∙ row_faults (role_of a.role) a.sheet.now a.at a.n l.i l.before (omega arith) (omega arith) (sym at-role-passes.ensures ∙ not-true _ c.if-not-role_passes.true-raw)); landed = tt }

pub loop-i-preserved : goal.loop-i-preserved
loop-i-preserved c =
    let at-loop = c.loop-i in
    let a = c.args in
    let l = at-loop in
    (omega arith, l.invariant.1 ∙ row_goes (role_of a.role) a.sheet.now a.at a.n l.i l.before (omega arith) (omega arith) (sym c.role_passes.ensures ∙ not-false _ c.if-not-role_passes.false-raw))

pub returns : goal.returns
returns c =
    let a = c.args in
    let l = c.loop-i in
    record { result_value = sym (l.invariant.1 ∙ row_done (role_of a.role) a.sheet.now a.at a.n l.i l.before (omega arith)); landed = (refl, omega arith) }
