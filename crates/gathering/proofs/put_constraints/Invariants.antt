use Rattle.model.specs.Sheet.{sheet_of}
use Rattle.inequalities.specs.Rows.{constraint_rows}
use Rattle.gathering.proofs.Steps.{Put}
use Rattle.gathering.proofs.put_constraints.Given as goal

abbrev pub invariant-loop-r : goal.invariant-loop-r
invariant-loop-r l = Put constraint_rows 1 l.marks (sheet_of l.sheet).constraints l.initial.rows l.start l.rows l.i l.r
