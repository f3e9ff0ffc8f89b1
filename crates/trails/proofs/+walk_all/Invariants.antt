-- What falls from call to call: the widths that are left.
use Rattle.std.proofs.Common.{length}
use Rattle.trails.proofs.+walk_all.Given as goal

abbrev pub decreases-walk_all : goal.decreases-walk_all
decreases-walk_all l = length l.w.now
