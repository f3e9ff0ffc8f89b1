use mathlib.Core.Path.{◌≡◌}
use Prim.Native.Nat.{◌*◌, ◌≤◌}
use Rattle.model.specs.Lists.{total}
use Rattle.model.specs.Sheet.{sheet_of}
use Rattle.formula.specs.Count.{part_counts}
use Rattle.shape.specs.Name.{section_of}
use Rattle.counting.proofs.section_count.Given as goal

abbrev pub invariant-loop-i : goal.invariant-loop-i
invariant-loop-i l = (l.sum ≡ total l.i (part_counts (sheet_of l.sheet) (section_of l.section))) × (l.sum ≤ l.i * 10616)
