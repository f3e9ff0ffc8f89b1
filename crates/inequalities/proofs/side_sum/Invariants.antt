use mathlib.Core.Path.{◌≡◌}
use Prim.Native.Nat.{◌+◌, ◌*◌, ◌≤◌}
use Rattle.inequalities.proofs.Steps.{side_to}
use Rattle.inequalities.proofs.side_sum.Given as goal

abbrev pub invariant-loop-f : goal.invariant-loop-f
invariant-loop-f l = (l.sum ≡ side_to l.rows l.at l.n l.f) × (l.sum ≤ 16711425 * (l.f + 1))
