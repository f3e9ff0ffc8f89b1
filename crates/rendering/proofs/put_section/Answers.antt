-- `rendering::put_section` meets its contract. The loop's invariant: the lines of the first i parts have been written. Assumes nothing.
use native.Mathlib.Omega.{arith}
use Rattle.model.specs.Sheet.{sheet_of}
use Rattle.formula.specs.Count.{parts}
use Rattle.model.proofs.Pieces.{loop_none, loop_room, loop_next, loop_done}
use Rattle.shape.specs.Name.{section_of}
use Rattle.rendering.specs.Lines.{part_lines, section_lines}
use Rattle.rendering.proofs.put_section.Goals as goal

pub loop-i-init : goal.loop-i-init
unfolding section_lines
loop-i-init c =
    let a = c.args in
    loop_none (part_lines (sheet_of c.args.sheet.now) (section_of a.section))

pub put_part-past-requires : goal.put_part-past-requires
unfolding section_lines
put_part-past-requires c =
    let at-parts = c.parts-parts in
    let at-loop-test = c.loop-i-test in
    let at-loop = c.loop-i in
    let a = c.args in
    (c.requires.0, omega (arith, at-parts.ensures.0, at-loop-test.true), loop_room (part_lines (sheet_of c.args.sheet.now) (section_of a.section)) (parts (sheet_of c.args.sheet.now) (section_of a.section)) c.requires.1 at-loop.invariant (omega (arith, at-parts.ensures.0, at-loop-test.true)))

pub loop-i-preserved : goal.loop-i-preserved
unfolding section_lines
loop-i-preserved c =
    let at-loop = c.loop-i in
    let at-parts = c.parts-parts in
    let at-loop-test = c.loop-i-test in
    let at-put-part = c.put_part-past in
    let a = c.args in
    loop_next (part_lines (sheet_of c.args.sheet.now) (section_of a.section)) (parts (sheet_of c.args.sheet.now) (section_of a.section)) c.requires.1 at-loop.invariant (omega (arith, at-parts.ensures.0, at-loop-test.true)) at-put-part.new.buf at-put-part.result at-put-part.ensures at-put-part.auto.buf

pub returns : goal.returns
unfolding section_lines
returns c =
    let at-loop = c.loop-i in
    let at-parts = c.parts-parts in
    let a = c.args in
    loop_done (part_lines (sheet_of c.args.sheet.now) (section_of a.section)) (parts (sheet_of c.args.sheet.now) (section_of a.section)) c.requires.1 at-loop.invariant (omega (arith, at-parts.ensures.0))
