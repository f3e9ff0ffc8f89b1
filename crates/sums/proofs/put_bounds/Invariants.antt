use Rattle.model.specs.Lists.{each, up_to}
use Rattle.model.specs.Sheet.{sheet_of}
use Rattle.model.proofs.Seams.{Written}
use Rattle.sums.specs.Lines.{bound_line}
use Rattle.sums.proofs.put_bounds.Given as goal

abbrev pub invariant-loop-n : goal.invariant-loop-n
invariant-loop-n l = Written l.initial.buf l.at (each (up_to l.n) (bound_line (sheet_of l.sheet) l.r)) l.buf l.past
