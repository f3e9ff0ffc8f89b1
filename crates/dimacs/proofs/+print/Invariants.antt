-- What falls from call to call is the number.
use Rattle.dimacs.proofs.+print.Given as goal

abbrev pub decreases-print : goal.decreases-print
decreases-print l = l.n
