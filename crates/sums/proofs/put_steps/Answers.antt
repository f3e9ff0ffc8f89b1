-- `sums::put_steps` meets its contract. The loop's invariant: the lines of the first k steps have been written. Assumes nothing.
use native.Mathlib.Omega.{arith}
use Rattle.model.specs.Sheet.{sheet_of}
use Rattle.formula.specs.Clause.{fields}
use Rattle.model.proofs.Pieces.{loop_none, loop_room, loop_next, loop_done}
use Rattle.sums.specs.Lines.{step_lines}
use Rattle.sums.proofs.put_steps.Goals as goal

pub loop-k-init : goal.loop-k-init
loop-k-init c =
    let a = c.args in
    loop_none (step_lines (sheet_of c.args.sheet.now) a.r)

pub put_step-past-requires : goal.put_step-past-requires
put_step-past-requires c =
    let at_fields = c.fields-fields in
    let at-loop-test = c.loop-k-test in
    let at-loop = c.loop-k in
    let a = c.args in
    (c.requires.0, c.requires.1, omega (arith, at_fields.ensures, at-loop-test.true), loop_room (step_lines (sheet_of c.args.sheet.now) a.r) (fields (sheet_of c.args.sheet.now)) c.requires.2 at-loop.invariant (omega (arith, at_fields.ensures, at-loop-test.true)))

pub loop-k-preserved : goal.loop-k-preserved
loop-k-preserved c =
    let at-loop = c.loop-k in
    let at_fields = c.fields-fields in
    let at-loop-test = c.loop-k-test in
    let at-put-step = c.put_step-past in
    let a = c.args in
    loop_next (step_lines (sheet_of c.args.sheet.now) a.r) (fields (sheet_of c.args.sheet.now)) c.requires.2 at-loop.invariant (omega (arith, at_fields.ensures, at-loop-test.true)) at-put-step.new.buf at-put-step.result at-put-step.ensures at-put-step.auto.buf

pub returns : goal.returns
returns c =
    let at-loop = c.loop-k in
    let at_fields = c.fields-fields in
    let a = c.args in
    loop_done (step_lines (sheet_of c.args.sheet.now) a.r) (fields (sheet_of c.args.sheet.now)) c.requires.2 at-loop.invariant (omega (arith, at_fields.ensures))
