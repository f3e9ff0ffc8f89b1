use mathlib.Core.Path.{◌≡◌}
use Prim.Native.Nat.{◌*◌, ◌≤◌}
use Rattle.model.specs.Lists.{total}
use Rattle.model.specs.Sheet.{sheet_of}
use Rattle.formula.specs.Count.{step_count}
use Rattle.counting.proofs.steps_count.Given as goal

abbrev pub invariant-loop-k : goal.invariant-loop-k
invariant-loop-k l = (l.sum ≡ total l.k (step_count (sheet_of l.sheet) l.r)) × (l.sum ≤ l.k * 1737)
