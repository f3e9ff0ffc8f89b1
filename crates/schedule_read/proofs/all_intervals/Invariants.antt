use mathlib.Core.Path.{◌≡◌}
use mathlib.Core.Bool.{true}
use Prim.Native.Nat.{◌-◌}
use Rattle.schedule.specs.Schedule.{Reading, all_tested}
use Rattle.schedule.specs.Offsets.{laid, fits}
use Rattle.schedule_read.proofs.all_intervals.Given as goal

abbrev pub invariant-loop : goal.invariant-loop
invariant-loop l = (fits l.hours l.at (l.n - l.counter) ≡ true) × ((go : Reading) → all_tested (laid l.hours 5 l.n) go ≡ all_tested (laid l.hours l.at (l.n - l.counter)) go)
