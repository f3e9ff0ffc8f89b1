-- `matching::put_matches` meets its contract. The loop's invariant: the first a lines have been written. Assumes nothing.
use native.Mathlib.Omega.{arith}
use Rattle.model.proofs.Pieces.{loop_none, loop_room, loop_next, loop_done}
use Rattle.matching.specs.Codes.{match_line}
use Rattle.matching.proofs.put_matches.Goals as goal

pub loop-a-init : goal.loop-a-init
unfolding match_line
loop-a-init c =
    let a = c.args in
    loop_none (match_line a.l a.here a.x a.y)

pub clause_line-past-requires : goal.clause_line-past-requires
unfolding match_line
clause_line-past-requires c =
    let at-loop = c.loop-a in
    let at-loop-test = c.loop-a-test in
    let a = c.args in
    loop_room (match_line a.l a.here a.x a.y) a.l c.requires.4 at-loop.invariant at-loop-test.true

pub loop-a-preserved : goal.loop-a-preserved
unfolding match_line
loop-a-preserved c =
    let at-loop = c.loop-a in
    let at-loop-test = c.loop-a-test in
    let at-clause-line = c.clause_line-past in
    let a = c.args in
    loop_next (match_line a.l a.here a.x a.y) a.l c.requires.4 at-loop.invariant at-loop-test.true at-clause-line.new.buf at-clause-line.result at-clause-line.ensures at-clause-line.auto.buf

pub returns : goal.returns
unfolding match_line
returns c =
    let at-loop = c.loop-a in
    let a = c.args in
    loop_done (match_line a.l a.here a.x a.y) a.l c.requires.4 at-loop.invariant (omega arith)
