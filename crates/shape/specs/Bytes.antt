-- Cells as bytes: a letter's number, or 8 + 8 × f + c for place c of field f; past a template's last cell 255.
use Rattle.std.specs.Prelude.{List, ◌++◌, map, ℕ, ◌+◌, ◌*◌, ltb, eqb, length, drop, replicate}
use Rattle.model.specs.Lists.{pick}
use Rattle.model.specs.Cells.{Cell, letter, place}
use Rattle.formula.specs.Kind.{Side, used, at_letter, at_field}

abbrev pub cell_byte : Cell → ℕ
cell_byte (letter a) = a
cell_byte (place f c) = 8 + 8 * f + c

-- the cells of a side of an equation, in 25 bytes
unfoldable pub side_bytes : List Cell → List ℕ
side_bytes us = map cell_byte us ++ drop (length us) (replicate 25 255)

-- What a byte says of a location's side: a letter, a place of a field, or that nothing is left.
abbrev pub side_of : ℕ → Side
side_of x = pick (ltb x 8) (at_letter x) (pick (eqb x 255) used at_field)
