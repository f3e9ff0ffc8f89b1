use Rattle.std.specs.Prelude.{IfSome}
use Rattle.choice.specs.Chosen.{Open}
use Rattle.choice.proofs.Choice.best.Given as goal

abbrev pub invariant-loop-f : goal.invariant-loop-f
invariant-loop-f l = IfSome l.best (Open l.lo l.hi)
