-- `bounds::sum` meets its contract. The loop's invariant: the sum of the lengths so far. Assumes nothing.
use mathlib.Core.Path.{◌≡◌}
use native.Mathlib.Omega.{arith}
use Rattle.std.proofs.Common.{add-one}
use Rattle.model.specs.Lists.{total}
use Rattle.bounds.specs.Bounds.{sum_of}
use Rattle.bounds.proofs.sum.Goals as goal

pub loop-x-init : goal.loop-x-init
unfolding total
loop-x-init c = (omega arith, omega arith)

pub loop-x-preserved : goal.loop-x-preserved
unfolding total
loop-x-preserved c = let fits = c.loop-x-test.element_fits in rw add-one (omega arith, omega arith)

pub returns : goal.returns
unfolding sum_of
returns c =
    let all : c.loop-x.x-index ≡ 6 = omega arith in
    (rw (← all) c.loop-x.invariant.0, omega arith)
