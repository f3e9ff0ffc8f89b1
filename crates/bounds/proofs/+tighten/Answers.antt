-- `bounds::tighten` meets its contract: one round, and then another while something is taken away. What falls from call to call: the sum of the
-- ranges. Assumes nothing.
use native.Mathlib.Omega.{arith}
use Rattle.bounds.specs.Bounds.{ClosedBoth}
use Rattle.bounds.proofs.Sums.{sum_grows}
use Rattle.bounds.proofs.Narrowing.{tightened_before, both_inside, both_keep, both_widest}
use Rattle.bounds.proofs.+tighten.Goals as goal

pub tighten-requires : goal.tighten-requires
tighten-requires t c =
    let passed = c.in_ok-left.ensures in
    let order = sum_grows _ _ passed.second.some in
    (omega (arith, c.requires.0), (c.requires.0, c.requires.1, passed.second.some))

pub returns-then-sum : goal.returns-then-sum
returns-then-sum t c =
    let a = c.args in
    let passed = c.in_ok-left.ensures in
    tightened_before (ClosedBoth a.sums.now a.m a.rows.now a.count) a.ranges.lo a.ranges.hi _ _
    (both_inside a.sums.now a.m a.rows.now a.count a.ranges.lo a.ranges.hi _ _ passed)
    (both_keep a.sums.now a.m a.rows.now a.count a.ranges.lo a.ranges.hi _ _ passed) c.tighten.result c.tighten.ensures

pub returns-else-sum : goal.returns-else-sum
returns-else-sum t c =
    let a = c.args in
    both_widest a.sums.now a.m a.rows.now a.count a.ranges.lo a.ranges.hi _ _ c.in_ok-left.ensures c.requires.2 (omega arith)
