use mathlib.Core.Path.{◌≡◌}
use mathlib.Core.List.{◌++◌, map}
use lib.ListN.{replicate, drop}
use Rattle.model.specs.Lists.{up_to}
use Rattle.model.specs.Sheet.{sheet_of, template}
use Rattle.model.specs.Cells.{cells}
use Rattle.codes.specs.Cell.{cell_code}
use Rattle.locations.proofs.cell_codes.Given as goal

abbrev pub invariant-loop-i : goal.invariant-loop-i
invariant-loop-i l = (l.codes ≡ map (λ i'. cell_code (sheet_of l.sheet) (cells (sheet_of l.sheet) (template (sheet_of l.sheet) l.p l.side)) i' 0 0) (up_to l.i) ++ drop l.i (replicate 25 0))
