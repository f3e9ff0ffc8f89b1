use mathlib.Core.Path.{◌≡◌}
use Prim.Native.Nat.{◌*◌, ◌≤◌}
use lib.ListN.{length}
use Rattle.model.specs.Lists.{each, up_to}
use Rattle.model.specs.Sheet.{sheet_of}
use Rattle.shape.specs.Name.{section_of}
use Rattle.rendering.specs.Lines.{part_lines}
use Rattle.size_file.proofs.section_size.Given as goal

abbrev pub invariant-loop-i : goal.invariant-loop-i
invariant-loop-i l = (l.sum ≡ length (each (up_to l.i) (part_lines (sheet_of l.sheet) (section_of l.section)))) × (l.sum ≤ l.i * 400000)
