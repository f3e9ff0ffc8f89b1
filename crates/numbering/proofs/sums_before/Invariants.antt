use mathlib.Core.Path.{◌≡◌}
use Rattle.model.specs.Lists.{total}
use Rattle.model.specs.Sheet.{sheet_of}
use Rattle.formula.specs.Numbering.{row_size}
use Rattle.numbering.proofs.sums_before.Given as goal

abbrev pub invariant-loop-i : goal.invariant-loop-i
invariant-loop-i l = l.sum ≡ total l.i (row_size (sheet_of l.sheet) l.r)
