use Rattle.model.specs.Lists.{each, up_to}
use Rattle.model.specs.Sheet.{sheet_of}
use Rattle.model.proofs.Seams.{Written}
use Rattle.shape.specs.Name.{section_of}
use Rattle.rendering.specs.Lines.{part_lines}
use Rattle.rendering.proofs.put_section.Given as goal

abbrev pub invariant-loop-i : goal.invariant-loop-i
invariant-loop-i l = Written l.initial.buf l.at (each (up_to l.i) (part_lines (sheet_of l.sheet) (section_of l.section))) l.buf l.past
