use mathlib.Core.Path.{◌≡◌}
use Prim.Native.Nat.{◌*◌, ◌≤◌}
use lib.ListN.{length}
use Rattle.model.specs.Lists.{each, up_to}
use Rattle.model.specs.Sheet.{sheet_of}
use Rattle.sums.specs.Lines.{step_lines}
use Rattle.size_sum.proofs.steps_size.Given as goal

abbrev pub invariant-loop-k : goal.invariant-loop-k
invariant-loop-k l = (l.sum ≡ length (each (up_to l.k) (step_lines (sheet_of l.sheet) l.r))) × (l.sum ≤ l.k * 60000)
