use mathlib.Core.Path.{◌≡◌}
use Prim.Native.Nat.{◌*◌, ◌≤◌}
use lib.ListN.{length}
use Rattle.model.specs.Lists.{each, up_to}
use Rattle.model.specs.Sheet.{sheet_of}
use Rattle.rendering.specs.Lines.{place_lines}
use Rattle.size_file.proofs.field_size.Given as goal

abbrev pub invariant-loop-c : goal.invariant-loop-c
invariant-loop-c l = (l.sum ≡ length (each (up_to l.c) (place_lines (sheet_of l.sheet) l.f))) × (l.sum ≤ l.c * 1300)
