-- What falls from call to call: the sum of the ranges.
use Prim.Native.Nat.{◌-◌}
use Rattle.bounds.specs.Bounds.{sum_of}
use Rattle.bounds.proofs.+tighten.Given as goal

abbrev pub decreases-tighten : goal.decreases-tighten
decreases-tighten l = sum_of l.ranges.hi - sum_of l.ranges.lo
