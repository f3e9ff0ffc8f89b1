use Rattle.model.specs.Sheet.{sheet_of, constraint, coefficient}
use Rattle.inequalities.specs.Rows.{positive, negative}
use Rattle.inequalities.proofs.Steps.{WrittenTo}
use Rattle.inequalities.proofs.making.constraint_row.Given as goal

abbrev pub invariant-loop-f : goal.invariant-loop-f
invariant-loop-f l = WrittenTo l.row (λ f. positive (coefficient (constraint (sheet_of l.sheet) l.r) f)) (λ f. negative (coefficient (constraint (sheet_of l.sheet) l.r) f)) l.f
