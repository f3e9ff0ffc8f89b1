-- `rendering::put_field` meets its contract. The loop's invariant: the lines of the first c places have been written. Assumes nothing.
use native.Mathlib.Omega.{arith}
use Rattle.model.specs.Sheet.{sheet_of, limit}
use Rattle.model.proofs.Pieces.{loop_none, loop_room, loop_next, loop_done}
use Rattle.rendering.specs.Lines.{place_lines, field_lines}
use Rattle.rendering.proofs.put_field.Goals as goal

pub loop-c-init : goal.loop-c-init
unfolding field_lines
loop-c-init c =
    let a = c.args in
    loop_none (place_lines (sheet_of c.args.sheet.now) a.f)

pub put_place-past-requires : goal.put_place-past-requires
unfolding field_lines
put_place-past-requires c =
    let at-limit = c.limit-limit in
    let at-loop-test = c.loop-c-test in
    let at-loop = c.loop-c in
    let a = c.args in
    (c.requires.0, (c.requires.1, omega (arith, at-limit.ensures.0, at-loop-test.true)), loop_room (place_lines (sheet_of c.args.sheet.now) a.f) (limit (sheet_of c.args.sheet.now) a.f) c.requires.2 at-loop.invariant (omega (arith, at-limit.ensures.0, at-loop-test.true)))

pub loop-c-preserved : goal.loop-c-preserved
unfolding field_lines
loop-c-preserved c =
    let at-loop = c.loop-c in
    let at-limit = c.limit-limit in
    let at-loop-test = c.loop-c-test in
    let at-put-place = c.put_place-past in
    let a = c.args in
    loop_next (place_lines (sheet_of c.args.sheet.now) a.f) (limit (sheet_of c.args.sheet.now) a.f) c.requires.2 at-loop.invariant (omega (arith, at-limit.ensures.0, at-loop-test.true)) at-put-place.new.buf at-put-place.result at-put-place.ensures at-put-place.auto.buf

pub returns : goal.returns
unfolding field_lines
returns c =
    let at-loop = c.loop-c in
    let at-limit = c.limit-limit in
    let a = c.args in
    loop_done (place_lines (sheet_of c.args.sheet.now) a.f) (limit (sheet_of c.args.sheet.now) a.f) c.requires.2 at-loop.invariant (omega (arith, at-limit.ensures.0))
