-- Document 02, No. 2: of which of eight kinds a location is, by what its two sides have, and how many clauses each kind has. So many document 01 lists
-- there, by `location_kind` in `Ticked.antt` of the proofs.
use Rattle.std.specs.Prelude.{Bool, List, ℕ, suc, ◌+◌, ◌*◌, ◌<◌, ltb, eqb, length}
use Rattle.model.specs.Lists.{pick, total}
use Rattle.model.specs.Sheet.{Sheet}
use Rattle.model.specs.Cells.{Cell, letter, place}
use Rattle.formula.specs.Clause.{cell, left_cells, right_cells}

-- What one side of a location has: nothing left, a letter, or a place of a field.
pub data Side : Type 0 where
  used : Side
  at_letter : ℕ → Side
  at_field : Side

abbrev pub cell_side : Cell → Side
cell_side (letter a) = at_letter a
cell_side (place f c) = at_field

abbrev pub side : List Cell → ℕ → Side
side us i = pick (ltb i (length us)) (cell_side (cell us i)) used

-- a letter is one of l
abbrev pub SideIn : ℕ → Side → Type 0
SideIn l used = Unit
SideIn l (at_letter a) = a < l
SideIn l at_field = Unit

-- The kinds, in the request's order.
pub data Kind : Type 0 where
  same_letter_twice : Kind
  different_letters : Kind
  letter_then_field : Kind
  field_then_letter : Kind
  two_fields : Kind
  used_up_before_letter : Kind
  used_up_before_field : Kind
  both_used_up : Kind

-- how many clauses a location of each has, with l letters
abbrev pub kind_count : ℕ → Kind → ℕ
-- "Same letter twice: 1."
kind_count l same_letter_twice = 1
-- "Different letters: 2."
kind_count l different_letters = 2
-- "Letter then field: 3."
kind_count l letter_then_field = 3
-- "Field then letter: L+1."
kind_count l field_then_letter = l + 1
-- "Two fields: L+3."
kind_count l two_fields = l + 3
-- "One template used up: 1 before a letter,"
kind_count l used_up_before_letter = 1
-- "2 before a field."
kind_count l used_up_before_field = 2
-- "Both used up: 0."
kind_count l both_used_up = 0

-- The kind of a location by its left side and its right side; "one template used up" is either of the two.
abbrev pub kind : Side → Side → Kind
kind (at_letter a) (at_letter b) = pick (eqb a b) same_letter_twice different_letters
kind (at_letter a) at_field = letter_then_field
kind at_field (at_letter b) = field_then_letter
kind at_field at_field = two_fields
kind used (at_letter b) = used_up_before_letter
kind (at_letter a) used = used_up_before_letter
kind used at_field = used_up_before_field
kind at_field used = used_up_before_field
kind used used = both_used_up

-- of location (i, j) of equation p
abbrev pub kind_at : Sheet → ℕ → ℕ → ℕ → Kind
kind_at s p i j = kind (side (left_cells s p) i) (side (right_cells s p) j)

-- A kind's number in that order, and whether two kinds are the same.
abbrev pub kind_number : Kind → ℕ
kind_number same_letter_twice = 0
kind_number different_letters = 1
kind_number letter_then_field = 2
kind_number field_then_letter = 3
kind_number two_fields = 4
kind_number used_up_before_letter = 5
kind_number used_up_before_field = 6
kind_number both_used_up = 7

abbrev pub same_kind : Kind → Kind → Bool
same_kind k q = eqb (kind_number k) (kind_number q)

-- how many locations of equation p are of a kind
abbrev pub locations_of : Sheet → ℕ → Kind → ℕ
locations_of s p k =
    total (suc (length (left_cells s p))) (λ i. total (suc (length (right_cells s p))) (λ j. pick (same_kind k (kind_at s p i j)) 1 0))

-- The sum over all kinds of n locations times w each; with `kind_count` for w, the clauses that are ticked off.
abbrev pub ticked : (Kind → ℕ) → (Kind → ℕ) → ℕ
ticked n w =
    n same_letter_twice * w same_letter_twice
    + (n different_letters * w different_letters
    + (n letter_then_field * w letter_then_field
    + (n field_then_letter * w field_then_letter
    + (n two_fields * w two_fields
    + (n used_up_before_letter * w used_up_before_letter
    + (n used_up_before_field * w used_up_before_field
    + n both_used_up * w both_used_up))))))
