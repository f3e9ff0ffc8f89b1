use mathlib.Core.Path.{◌≡◌}
use Prim.Native.Nat.{◌-◌}
use Rattle.schedule.specs.Offsets.{fits}
use Rattle.schedule_read.proofs.fits.Given as goal

abbrev pub invariant-loop : goal.invariant-loop
invariant-loop l = fits l.hours 5 l.n ≡ fits l.hours l.at (l.n - l.counter)
