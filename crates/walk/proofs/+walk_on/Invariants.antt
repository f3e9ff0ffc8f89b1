-- The measure: the cells left in both sides plus the undecided places.
use Rattle.std.proofs.Common.{◌+◌, ◌-◌, length}
use Rattle.walk.specs.Walk.{undecided}
use Rattle.walk.proofs.+walk_on.Given as goal

abbrev pub decreases-walk_on : goal.decreases-walk_on
decreases-walk_on l = (length l.a.now - l.left0) + (length l.b.now - l.right0) + undecided l.g
