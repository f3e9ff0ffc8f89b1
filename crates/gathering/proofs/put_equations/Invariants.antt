use Rattle.model.specs.Sheet.{sheet_of}
use Rattle.inequalities.specs.Rows.{equation_rows}
use Rattle.gathering.proofs.Steps.{Put}
use Rattle.gathering.proofs.put_equations.Given as goal

abbrev pub invariant-loop-p : goal.invariant-loop-p
invariant-loop-p l = Put equation_rows 2 l.marks (sheet_of l.sheet).equations l.initial.rows 0 l.rows l.i l.p
