-- `tally::read_values` meets its contract. The loop's invariant: what is left of the line decides what all of it does, with the tally and the
-- marks that the numbers before have come to. Assumes nothing.
use mathlib.Core.Path.{ap, subst, ◌∙◌}
use Prim.Native.Nat.{◌-◌}
use native.Mathlib.Omega.{arith}
use lib.ListN.{take, drop}
use Rattle.std.specs.Prelude.{Some}
use Rattle.numerals.specs.Said.{Said}
use Rattle.tally.proofs.Pieces.{noted-none, noted-all, noted-unknown, noted_plus, noted_minus, piece_at}
use Rattle.tally.proofs.read_values.Goals as goal
use Rattle.tally.proofs.read_values.Goals.{in-Plus, in-Minus}

pub loop-at-init : goal.loop-at-init
loop-at-init c = noted-none _ _ _

pub returns-in_err-n : goal.returns-in_err-n
returns-in_err-n c =
    let at-loop = c.loop-at in
    let at-find = c.find-end in
    let a = c.args in
    let line = a.line.now in
    let piece = take (at-find.result - at-loop.at) (drop at-loop.at line) in
    let said = subst (Said piece) (c.in_err-n.was {u = tt}) c.read_number.ensures in
    rw c.from_residual.ensures (noted-unknown a.marks.now a.tally line at-loop.at at-loop.marks at-loop.sum at-loop.invariant at-find.result
    (piece_at line at-loop.at at-find.result (omega arith) at-find.ensures.0) said)

pub note-sum-requires : goal.note-sum-requires
note-sum-requires c =
    omega arith

pub note-sum-requires-in-Minus : goal.note-sum-requires-in-Minus
note-sum-requires-in-Minus c =
    omega arith

pub loop-at-preserved : goal.loop-at-preserved
loop-at-preserved c =
    let at-loop = c.loop-at in
    let at-find = c.find-end in
    let a = c.args in
    let line = a.line.now in
    let piece = take (at-find.result - at-loop.at) (drop at-loop.at line) in
    let there = piece_at line at-loop.at at-find.result (omega arith) at-find.ensures.0 in
    let said = c.read_number.ensures in
    elim c.match-branch-2.branch [
      | in-Plus w ↦
          noted_plus a.marks.now a.tally line at-loop.at at-loop.marks at-loop.sum at-loop.invariant at-find.result there w.in-Plus.n
          (subst (Said piece) (c.in_ok-n.was {u = tt} ∙ ap Some w.in-Plus.is) said)
          c.match-branch-2.marks c.match-branch-2.sum (w.sum-is ∙ w.note-sum.ensures.0) (w.marks-is ∙ w.note-sum.ensures.1)
      | in-Minus w ↦
          noted_minus a.marks.now a.tally line at-loop.at at-loop.marks at-loop.sum at-loop.invariant at-find.result there w.in-Minus.n
          (subst (Said piece) (c.in_ok-n.was {u = tt} ∙ ap Some w.in-Minus.is) said)
          c.match-branch-2.marks c.match-branch-2.sum (w.sum-is ∙ w.note-sum-in-Minus.ensures.0) (w.marks-is ∙ w.note-sum-in-Minus.ensures.1)
    ]

pub shape_of-marks : goal.shape_of-marks
shape_of-marks c = c.loop-at.invariant.long

pub returns : goal.returns
returns c =
    let a = c.args in
    let l = c.loop-at in
    noted-all a.marks.now a.tally a.line.now l.at l.marks l.sum l.invariant c.loop-at-test.false
