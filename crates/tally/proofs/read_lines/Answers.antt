-- `tally::read_lines` meets its contract. The loop's invariant: what is left of the text decides what all of it does, with the tally and the
-- marks that the lines before have come to. Assumes nothing.
use mathlib.Core.Path.{subst}
use Prim.Native.Nat.{◌-◌}
use native.Mathlib.Omega.{arith}
use lib.ListN.{take, drop, length-drop}
use lib.Seq.{length-take-le}
use Rattle.tally.specs.Tally.{ReadLine}
use Rattle.tally.proofs.Texts.{passed_none, passed_all, passed_unknown, passed_more}
use Rattle.tally.proofs.read_lines.Goals as goal

pub loop-at-init : goal.loop-at-init
loop-at-init c = passed_none _ _

pub read_line-requires : goal.read_line-requires
read_line-requires c =
    let at-loop = c.loop-at in
    let end = c.find-end.result in
    let text = c.args.text.now in
    let l = at-loop.invariant.long in
    let d = length-drop at-loop.at text in
    let k = length-take-le (end - at-loop.at) (drop at-loop.at text) (omega arith) in
    (omega arith, omega arith)

pub returns-in_err-sum : goal.returns-in_err-sum
returns-in_err-sum c =
    let at-loop = c.loop-at in
    let at-find = c.find-end in
    let at-line = c.read_line in
    let a = c.args in
    let text = a.text.now in
    let line = take (at-find.result - at-loop.at) (drop at-loop.at text) in
    rw c.from_residual.ensures (passed_unknown a.marks.now text at-loop.at at-loop.marks at-loop.sum at-loop.invariant (omega arith) at-find.result at-find.ensures.0
    at-line.new.marks (subst (λ r. ReadLine at-loop.marks at-loop.sum line r at-line.new.marks) (c.in_err-sum.was {u = tt}) at-line.ensures))

pub loop-at-preserved : goal.loop-at-preserved
loop-at-preserved c =
    let at-loop = c.loop-at in
    let at-find = c.find-end in
    let at-line = c.read_line in
    let a = c.args in
    let text = a.text.now in
    let line = take (at-find.result - at-loop.at) (drop at-loop.at text) in
    passed_more a.marks.now text at-loop.at at-loop.marks at-loop.sum at-loop.invariant (omega arith) at-find.result at-find.ensures.0
    at-line.new.marks c.in_ok-sum.sum at-line.auto.marks
    (subst (λ r. ReadLine at-loop.marks at-loop.sum line r at-line.new.marks) (c.in_ok-sum.was {u = tt}) at-line.ensures)

pub shape_of-marks : goal.shape_of-marks
shape_of-marks c = c.loop-at.invariant.long

pub returns : goal.returns
returns c =
    let a = c.args in
    let l = c.loop-at in
    passed_all a.marks.now a.text.now l.at l.marks l.sum l.invariant c.loop-at-test.false
