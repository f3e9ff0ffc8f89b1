use mathlib.Core.List.{◌++◌}
use lib.ListN.{drop}
use Rattle.model.specs.Lists.{each, Holds}
use Rattle.model.specs.Sheet.{sheet_of, encode_equation, encode_constraint}
use Rattle.parts.proofs.entry_at.Given as goal

abbrev pub invariant-loop : goal.invariant-loop
invariant-loop l = Holds l.sheet l.at (each (drop l.counter (sheet_of l.sheet).equations) encode_equation ++ each (sheet_of l.sheet).constraints encode_constraint)
