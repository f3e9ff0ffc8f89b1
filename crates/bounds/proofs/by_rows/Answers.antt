-- `bounds::by_rows` meets its contract. The loop's invariant: the ranges have passed the first i rows. Assumes nothing.
use Rattle.bounds.proofs.Narrowing.{passed_next, hopeless_nowhere}
use Rattle.bounds.proofs.by_rows.Goals as goal

pub returns-in_err-left : goal.returns-in_err-left
returns-in_err-left c =
    let a = c.args in
    rw c.from_residual.ensures (hopeless_nowhere a.rows.now a.count a.ranges.lo a.ranges.hi c.loop-i.i c.loop-i-test.true _ _ c.loop-i.invariant c.in_err-left.ensures)

pub loop-i-preserved : goal.loop-i-preserved
loop-i-preserved c =
    let a = c.args in
    passed_next a.rows.now a.count a.ranges.lo a.ranges.hi c.loop-i.i c.loop-i-test.true _ _ c.loop-i.invariant _ _ c.in_ok-left.ensures
