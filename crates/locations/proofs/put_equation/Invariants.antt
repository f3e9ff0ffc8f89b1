use Rattle.model.specs.Lists.{each, up_to}
use Rattle.model.specs.Sheet.{sheet_of}
use Rattle.model.proofs.Seams.{Written}
use Rattle.locations.specs.Lines.{row_lines}
use Rattle.locations.proofs.put_equation.Given as goal

abbrev pub invariant-loop-i : goal.invariant-loop-i
invariant-loop-i l = Written l.initial.buf l.initial.past (each (up_to l.i) (row_lines (sheet_of l.sheet) l.p)) l.buf l.past
