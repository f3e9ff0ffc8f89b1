use Rattle.model.specs.Lists.{each, up_to}
use Rattle.model.proofs.Seams.{Written}
use Rattle.sums.specs.Codes.{add_line}
use Rattle.sums.proofs.put_sum.Given as goal

abbrev pub invariant-loop-d : goal.invariant-loop-d
invariant-loop-d l = Written l.initial.buf l.at (each (up_to l.d) (add_line l.here l.step.blank l.step.stride l.step.limit l.step.first l.step.low l.step.c l.n)) l.buf l.past
