-- The lines of an equation, in the order of the clauses that are not left out.
use Rattle.std.specs.Prelude.{List, ◌++◌, ℕ, suc, length}
use Rattle.model.specs.Lists.{each, up_to}
use Rattle.model.specs.Sheet.{Sheet}
use Rattle.formula.specs.Clause.{ClauseId, Start, blank, left_cells, right_cells}
use Rattle.formula.specs.Kind.{side}
use Rattle.formula.specs.Count.{standing}
use Rattle.literals.specs.Name.{line_of}

-- the lines of several clauses
abbrev pub lines_of : Sheet → List ClauseId → List ℕ
lines_of s qs = each qs (line_of s)

-- of a location, of a row of locations, and of an equation
unfoldable pub location_lines : Sheet → ℕ → ℕ → ℕ → List ℕ
location_lines s p i j = lines_of s (standing (blank s) p i j (side (left_cells s p) i) (side (right_cells s p) j))

unfoldable pub row_lines : Sheet → ℕ → ℕ → List ℕ
row_lines s p i = each (up_to (suc (length (right_cells s p)))) (location_lines s p i)

unfoldable pub equation_lines : Sheet → ℕ → List ℕ
equation_lines s p = line_of s (Start p) ++ each (up_to (suc (length (left_cells s p)))) (row_lines s p)
