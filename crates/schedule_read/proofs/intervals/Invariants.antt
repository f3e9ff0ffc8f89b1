use mathlib.Core.Path.{◌≡◌}
use Prim.Native.Nat.{◌+◌, ◌-◌, ◌*◌}
use Rattle.schedule.specs.Schedule.{Reading, tested}
use Rattle.schedule.specs.Offsets.{standing, own_at}
use Rattle.schedule_read.proofs.intervals.Given as goal

abbrev pub invariant-loop-w : goal.invariant-loop-w
invariant-loop-w l = (go : Reading) → tested 0 (own_at l.hours l.at) go ≡ tested l.least (standing l.hours (l.at + 1 + 4 * l.w) (l.n - l.w)) go
