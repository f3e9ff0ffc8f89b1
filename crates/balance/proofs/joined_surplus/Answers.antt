-- `balance::joined_surplus` meets its contract. The loop's invariant: the sum of the surpluses in the equations below p. Assumes nothing.
use mathlib.Core.Path.{◌≡◌}
use native.Mathlib.Omega.{arith}
use Rattle.std.proofs.Common.{add-one}
use Rattle.model.specs.Lists.{total}
use Rattle.balance.proofs.joined_surplus.Goals as goal

pub loop-p-init : goal.loop-p-init
unfolding total
loop-p-init c = (omega arith, omega arith)

pub loop-p-preserved : goal.loop-p-preserved
unfolding total
loop-p-preserved c = rw add-one (omega (arith, c.taken-sum.ensures.0), omega (arith, c.taken-sum.ensures.1))

pub returns : goal.returns
unfolding total
returns c =
    let all : c.loop-p.p ≡ 4 = omega arith in
    let sums = rw all at c.loop-p.invariant.0 in
    omega arith
