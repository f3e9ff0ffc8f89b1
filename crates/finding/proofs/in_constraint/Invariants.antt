use mathlib.Core.Path.{◌≡◌}
use Prim.Native.Nat.{◌+◌, ◌-◌}
use Rattle.model.specs.Lists.{total}
use Rattle.model.specs.Sheet.{sheet_of}
use Rattle.formula.specs.Count.{step_count}
use Rattle.finding.proofs.in_constraint.Given as goal

abbrev pub invariant-loop-k : goal.invariant-loop-k
invariant-loop-k l = total l.k (step_count (sheet_of l.sheet) l.r) + l.rest ≡ l.n - 1
