-- `counting::steps_count` meets its contract. The loop's invariant: the sum is the total of the first k steps. Assumes nothing.
use native.Mathlib.Omega.{arith}
use Rattle.model.specs.Sheet.{sheet_of}
use Rattle.formula.specs.Count.{step_count}
use Rattle.model.proofs.Keeping.{total-more, total-none}
use Rattle.counting.proofs.steps_count.Goals as goal

pub loop-k-init : goal.loop-k-init
loop-k-init c =
    (omega (arith, total-none (step_count (sheet_of c.args.sheet.now) c.args.r)), omega arith)

pub loop-k-preserved : goal.loop-k-preserved
loop-k-preserved c =
    let at-loop = c.loop-k in
    let more = total-more at-loop.k (step_count (sheet_of c.args.sheet.now) c.args.r) in
    (omega (arith, at-loop.invariant, c.step_count-sum.ensures), omega (arith, at-loop.invariant, c.step_count-sum.ensures))
