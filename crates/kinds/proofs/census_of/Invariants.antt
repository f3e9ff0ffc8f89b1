use Rattle.kinds.specs.Census.{Counted}
use Rattle.kinds.proofs.census_of.Given as goal

abbrev pub invariant-loop-j : goal.invariant-loop-j
invariant-loop-j l = Counted l.l l.right l.j l.sum
