use mathlib.Core.Path.{◌≡◌}
use Rattle.model.specs.Sheet.{sheet_of, constraint}
use Rattle.model.specs.Word.{weight}
use Rattle.fields.specs.Memory.{meaning}
use Rattle.judge.proofs.weigh.Given as goal

abbrev pub invariant-loop-f : goal.invariant-loop-f
invariant-loop-f l = l.sum ≡ weight (constraint (sheet_of l.sheet) l.r) (meaning l.sheet l.g) l.f
