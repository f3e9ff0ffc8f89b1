use Rattle.model.specs.Lists.{each, up_to}
use Rattle.model.proofs.Seams.{Written}
use Rattle.matching.specs.Codes.{match_line}
use Rattle.matching.proofs.put_matches.Given as goal

abbrev pub invariant-loop-a : goal.invariant-loop-a
invariant-loop-a l = Written l.initial.buf l.at (each (up_to l.a) (match_line l.l l.here l.x l.y)) l.buf l.past
