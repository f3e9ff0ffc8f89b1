-- The codes of literals that speak of a cell.
use Rattle.std.specs.Prelude.{List, ℕ, ◌+◌, ◌*◌, ltb, length}
use Rattle.model.specs.Lists.{pick}
use Rattle.model.specs.Sheet.{Sheet}
use Rattle.model.specs.Cells.{Cell, letter, place}
use Rattle.formula.specs.Clause.{K, cell}
use Rattle.formula.specs.Numbering.{number}

-- The code of a literal that says of a cell that it is a or, with sign 1, that it is not: 0 for a letter cell, and past the last cell.
abbrev pub place_code : Sheet → Cell → ℕ → ℕ → ℕ
place_code s (letter b) a sign = 0
place_code s (place f c) a sign = 2 * number s (K f c a) + sign

unfoldable pub cell_code : Sheet → List Cell → ℕ → ℕ → ℕ → ℕ
cell_code s us i a sign = pick (ltb i (length us)) (place_code s (cell us i) a sign) 0
