use mathlib.Core.List.{List}
use Prim.Native.Nat.{ℕ, ◌+◌, ◌*◌, ◌<◌}
use lib.ListN.{get_or}
use Rattle.schedule.specs.Schedule.{Schedule, schedule_of}
use Rattle.schedule_table.specs.Table.{Marks}
use Rattle.schedule_table.proofs.put_table.Given as goal

-- the table is right up to an offset
abbrev pub ShowsTo : ℕ → ℕ → Schedule → List ℕ → Type 0
ShowsTo k n s table = (i j : ℕ) → i * 16 + j < k → Marks n s i j (get_or table (i * 16 + j) 0)

abbrev pub invariant-loop-k : goal.invariant-loop-k
invariant-loop-k l = ShowsTo l.k l.n (schedule_of l.n l.hours) l.table
