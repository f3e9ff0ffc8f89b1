use Rattle.model.specs.Lists.{each, up_to}
use Rattle.model.proofs.Seams.{Written}
use Rattle.rendering.specs.Codes.{pair_lines}
use Rattle.rendering.proofs.put_all_pairs.Given as goal

abbrev pub invariant-loop-a : goal.invariant-loop-a
invariant-loop-a l = Written l.initial.buf l.at (each (up_to l.a) (pair_lines l.first l.letters)) l.buf l.past
