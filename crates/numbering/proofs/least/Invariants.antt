use mathlib.Core.Path.{◌≡◌}
use Rattle.model.specs.Sheet.{sheet_of, constraint}
use Rattle.formula.specs.Clause.{least}
use Rattle.numbering.proofs.least.Given as goal

abbrev pub invariant-loop-f : goal.invariant-loop-f
invariant-loop-f l = l.sum ≡ least (sheet_of l.sheet) (constraint (sheet_of l.sheet) l.r) l.f
