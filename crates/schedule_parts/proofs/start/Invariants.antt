use mathlib.Core.Path.{◌≡◌}
use mathlib.Core.Bool.{true}
use Prim.Native.Nat.{◌-◌}
use Rattle.schedule.specs.Offsets.{start_at, fits}
use Rattle.schedule_parts.proofs.start.Given as goal

abbrev pub invariant-loop : goal.invariant-loop
invariant-loop l = (fits l.hours l.at (l.n - l.counter) ≡ true) × (start_at l.hours 5 l.i ≡ start_at l.hours l.at (l.i - l.counter))
