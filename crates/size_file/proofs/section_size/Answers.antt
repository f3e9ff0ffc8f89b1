-- `size_file::section_size` meets its contract. The loop's invariant: the sum is that of the first i parts. Assumes nothing.
use mathlib.Core.Path.{◌≡◌, sym, ap, ◌∙◌}
use native.Mathlib.Omega.{arith}
use lib.ListN.{length}
use Rattle.model.specs.Lists.{each, up_to}
use Rattle.model.specs.Sheet.{sheet_of}
use Rattle.formula.specs.Count.{parts}
use Rattle.shape.specs.Name.{section_of}
use Rattle.rendering.specs.Lines.{part_lines, section_lines}
use Rattle.model.proofs.Keeping.{length_none, length_more}
use Rattle.size_file.proofs.section_size.Goals as goal

pub loop-i-init : goal.loop-i-init
loop-i-init c =
    (sym (length_none (part_lines (sheet_of c.args.sheet.now) (section_of c.args.section))), omega arith)

pub loop-i-preserved : goal.loop-i-preserved
loop-i-preserved c =
    let l = c.loop-i in
    let more = length_more (part_lines (sheet_of c.args.sheet.now) (section_of c.args.section)) l.i in
    (omega (arith, l.invariant.0, c.part_size-sum.ensures.0), omega (arith, l.invariant.1, c.part_size-sum.ensures.1))

pub returns : goal.returns
unfolding section_lines
returns c =
    let l = c.loop-i in
    let s = sheet_of c.args.sheet.now in
    let e : l.i ≡ parts s (section_of c.args.section) = omega (arith, l.auto.i-end, c.parts-parts.ensures.0) in
    (l.invariant.0 ∙ ap (λ k. length (each (up_to k) (part_lines s (section_of c.args.section)))) e, omega (arith, l.invariant, c.parts-parts.ensures.1))
