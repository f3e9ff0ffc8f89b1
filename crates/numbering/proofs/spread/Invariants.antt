use mathlib.Core.Path.{◌≡◌}
use Rattle.model.specs.Sheet.{sheet_of, constraint}
use Rattle.formula.specs.Clause.{spread}
use Rattle.numbering.proofs.spread.Given as goal

abbrev pub invariant-loop-f : goal.invariant-loop-f
invariant-loop-f l = l.sum ≡ spread (sheet_of l.sheet) (constraint (sheet_of l.sheet) l.r) l.f
