-- What falls from call to call: the sum of the ranges.
use Prim.Native.Nat.{◌-◌}
use Rattle.bounds.specs.Bounds.{sum_of}
use Rattle.boxes.proofs.+in_box.Given as goal

abbrev pub decreases-in_box : goal.decreases-in_box
decreases-in_box l = sum_of l.ranges.hi - sum_of l.ranges.lo
