-- `rendering::put_all_pairs` meets its contract. The loop's invariant: the lines of the first a values have been written. Assumes nothing.
use mathlib.Core.List.{List}
use Prim.Native.Nat.{ℕ, suc}
use native.Mathlib.Omega.{arith}
use Rattle.model.proofs.Pieces.{loop_none, loop_room, loop_next, loop_done}
use Rattle.rendering.specs.Codes.{pair_lines}
use Rattle.rendering.proofs.put_all_pairs.Goals as goal
use Rattle.rendering.proofs.put_all_pairs.Lts as lts
use Rattle.rendering.proofs.put_all_pairs.Reads as reads
use Rattle.rendering.proofs.put_all_pairs.Tie as tie

-- the lines of each value
abbrev lines : lts.Start tie.the-claims reads.Pre reads.Post goal.the-invariant-loop-a goal.the-decreases-loop-a → ℕ → List ℕ
lines start = pair_lines start.args.first start.args.letters

pub loop-a-init : goal.loop-a-init
loop-a-init c = loop_none (lines c.before.before)

pub put_unlike-past-requires : goal.put_unlike-past-requires
put_unlike-past-requires c =
    let at-loop = c.loop-a in
    (omega arith, omega arith, omega arith, loop_room (lines c.before.before.before.before) (suc c.args.letters) c.requires.2 at-loop.invariant (omega arith))

pub loop-a-preserved : goal.loop-a-preserved
loop-a-preserved c =
    let after = c.before.before.before in
    let at-loop = after.loop-a in
    loop_next (lines after.before.before.before.before.before) (suc after.args.letters) after.requires.2 at-loop.invariant (omega arith) after.put_unlike-past.new.buf after.put_unlike-past.result after.put_unlike-past.ensures after.put_unlike-past.auto.buf

pub returns : goal.returns
returns c =
    loop_done (lines c.before.before.before) (suc c.args.letters) c.requires.2 c.loop-a.invariant (omega arith)
