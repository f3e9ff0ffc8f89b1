use mathlib.Core.Path.{◌≡◌}
use Rattle.model.specs.Lists.{total}
use Rattle.model.specs.Sheet.{sheet_of}
use Rattle.formula.specs.Count.{variable_counts}
use Rattle.shape.specs.Name.{section_of}
use Rattle.numbering.proofs.parts_before.Given as goal

abbrev pub invariant-loop-i : goal.invariant-loop-i
invariant-loop-i l = l.sum ≡ total l.i (variable_counts (sheet_of l.sheet) (section_of l.section))
