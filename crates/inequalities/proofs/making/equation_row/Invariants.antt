use mathlib.Core.List.{map}
use Rattle.model.specs.Sheet.{symbol_of}
use Rattle.inequalities.specs.Rows.{excess}
use Rattle.inequalities.proofs.Steps.{WrittenTo}
use Rattle.inequalities.proofs.making.equation_row.Given as goal

abbrev pub invariant-loop-f : goal.invariant-loop-f
invariant-loop-f l = WrittenTo l.row (excess (map symbol_of l.left) (map symbol_of l.right)) (excess (map symbol_of l.right) (map symbol_of l.left)) l.f
