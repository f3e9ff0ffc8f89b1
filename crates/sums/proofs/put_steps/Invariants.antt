use Rattle.model.specs.Lists.{each, up_to}
use Rattle.model.specs.Sheet.{sheet_of}
use Rattle.model.proofs.Seams.{Written}
use Rattle.sums.specs.Lines.{step_lines}
use Rattle.sums.proofs.put_steps.Given as goal

abbrev pub invariant-loop-k : goal.invariant-loop-k
invariant-loop-k l = Written l.initial.buf l.at (each (up_to l.k) (step_lines (sheet_of l.sheet) l.r)) l.buf l.past
