use mathlib.Core.Path.{◌≡◌}
use Prim.Native.Nat.{◌+◌, ◌*◌, ◌≤◌}
use lib.ListN.{length}
use Rattle.model.specs.Lists.{each, up_to}
use Rattle.model.specs.Sheet.{sheet_of}
use Rattle.locations.specs.Lines.{row_lines}
use Rattle.size_location.proofs.equation_size.Given as goal

abbrev pub invariant-loop-i : goal.invariant-loop-i
invariant-loop-i l = (l.sum ≡ l.initial.sum + length (each (up_to l.i) (row_lines (sheet_of l.sheet) l.p))) × (l.sum ≤ 9 + l.i * 10000)
