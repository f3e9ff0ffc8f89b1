-- What falls from call to call: the fields that are not settled, and then the lengths that field k can still take.
use Prim.Native.Nat.{◌+◌, ◌*◌, ◌-◌}
use lib.ListN.{get_or}
use Rattle.lengths.proofs.+settle.Given as goal

abbrev pub decreases-settle : goal.decreases-settle
decreases-settle l = (6 - l.k) * 1024 + (256 - get_or l.ranges.lo l.k 0)
