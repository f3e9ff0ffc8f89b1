-- `counting::not_both_count` meets its contract. The loop's invariant: the sum is the total of the first a parts. Assumes nothing.
use native.Mathlib.Omega.{arith}
use Rattle.model.proofs.Keeping.{total-more, total-none}
use Rattle.counting.proofs.not_both_count.Goals as goal
use Rattle.counting.proofs.not_both_count.Invariants.{part}

pub loop-a-init : goal.loop-a-init
loop-a-init c = (omega (arith, total-none (part c.args.l)), omega arith)

pub loop-a-preserved : goal.loop-a-preserved
loop-a-preserved c =
    let l = c.args.l in
    let a = c.loop-a.a in
    let more = total-more a (part l) in
    (omega (arith, c.loop-a.invariant), omega (arith, c.requires, c.loop-a.invariant))
