-- The cells of a reversed template, had from the cells of the template: they come from the last to the first, and the places of each field go the other way.
use Rattle.std.specs.Prelude.{Bool, List, map, reverse, ℕ, ◌+◌, ◌*◌, ◌-◌, ◌/◌, ◌%◌, ◌≤◌, ltb}
use Rattle.model.specs.Lists.{pick}
use Rattle.model.specs.Sheet.{Sheet, limit}
use Rattle.formula.specs.Numbering.{PlaceIn}

-- a letter, or a place that the sheet has
abbrev pub ByteIn : Sheet → ℕ → Type 0
ByteIn s x = 8 ≤ x → PlaceIn s ((x - 8) / 8) ((x - 8) % 8)

-- a letter itself, or the place that is as far from its field's last as x is from the first
unfoldable pub turned_byte : Sheet → ℕ → ℕ
turned_byte s x = pick (ltb x 8) x (8 + 8 * ((x - 8) / 8) + (limit s ((x - 8) / 8) - 1 - (x - 8) % 8))

abbrev pub cells_facing : Sheet → Bool → List ℕ → List ℕ
cells_facing s back xs = pick back (map (turned_byte s) (reverse xs)) xs
