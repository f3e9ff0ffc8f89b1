-- `matching::put_unlike` meets its contract. The loop's invariant: the first k lines have been written. Assumes nothing.
use native.Mathlib.Omega.{arith}
use Rattle.model.proofs.Pieces.{loop_none, loop_room, loop_next, loop_done}
use Rattle.matching.specs.Codes.{unlike_line}
use Rattle.matching.proofs.put_unlike.Goals as goal

pub loop-k-init : goal.loop-k-init
unfolding unlike_line
loop-k-init c =
    let a = c.args in
    loop_none (unlike_line a.here a.x a.first)

pub clause_line-past-requires : goal.clause_line-past-requires
unfolding unlike_line
clause_line-past-requires c =
    let at-loop = c.loop-k in
    let at-loop-test = c.loop-k-test in
    let a = c.args in
    loop_room (unlike_line a.here a.x a.first) a.n c.requires.3 at-loop.invariant at-loop-test.true

pub loop-k-preserved : goal.loop-k-preserved
unfolding unlike_line
loop-k-preserved c =
    let at-loop = c.loop-k in
    let at-loop-test = c.loop-k-test in
    let at-clause-line = c.clause_line-past in
    let a = c.args in
    loop_next (unlike_line a.here a.x a.first) a.n c.requires.3 at-loop.invariant at-loop-test.true at-clause-line.new.buf at-clause-line.result at-clause-line.ensures at-clause-line.auto.buf

pub returns : goal.returns
unfolding unlike_line
returns c =
    let at-loop = c.loop-k in
    let a = c.args in
    loop_done (unlike_line a.here a.x a.first) a.n c.requires.3 at-loop.invariant (omega arith)
