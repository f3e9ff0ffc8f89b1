use Rattle.model.specs.Lists.{each, up_to}
use Rattle.model.proofs.Seams.{Written}
use Rattle.matching.specs.Codes.{unlike_line}
use Rattle.matching.proofs.put_unlike.Given as goal

abbrev pub invariant-loop-k : goal.invariant-loop-k
invariant-loop-k l = Written l.initial.buf l.at (each (up_to l.k) (unlike_line l.here l.x l.first)) l.buf l.past
