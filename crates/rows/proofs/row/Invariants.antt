use mathlib.Core.Path.{◌≡◌}
use Prim.Native.Nat.{◌+◌, ◌-◌, ◌≤◌}
use lib.ListN.{length, drop}
use Rattle.model.specs.Sheet.{row, rest}
use Rattle.rows.specs.Progress.{role_of}
use Rattle.rows.proofs.row.Given as goal

abbrev pub invariant-loop-i : goal.invariant-loop-i
invariant-loop-i l = (l.at + l.i ≤ length l.sheet) × (rest (row (role_of l.role) 0 l.n (drop l.at l.sheet)) ≡ rest (row (role_of l.role) l.before (l.n - l.i) (drop (l.at + l.i) l.sheet)))
