-- What stands on the right of an equation, counted: letters, places, each letter, and what letters add where a place is on the left; and how many clauses a
-- row of locations has by that. `Laws.antt` of the proofs shows that these are the clauses of its locations.
use Rattle.std.specs.Prelude.{◌≡◌, List, ℕ, ◌+◌, ◌-◌, ◌*◌, ◌<◌, ◌≤◌, eqb, get_or}
use Rattle.model.specs.Lists.{pick, total}
use Rattle.formula.specs.Kind.{Side, used, at_letter, at_field, same_letter_twice, different_letters, letter_then_field, field_then_letter, two_fields, used_up_before_letter, used_up_before_field, both_used_up, kind_count}
use Rattle.shape.specs.Bytes.{side_of}
use Rattle.kinds.specs.declared.Census.{Census}

-- How often a side is a letter, a place, letter a; and what a letter adds where a place is on the left, its own number.
abbrev pub as_letter : Side → ℕ
as_letter used = 0
as_letter (at_letter b) = 1
as_letter at_field = 0

abbrev pub as_place : Side → ℕ
as_place used = 0
as_place (at_letter b) = 0
as_place at_field = 1

abbrev pub as_this : ℕ → Side → ℕ
as_this a used = 0
as_this a (at_letter b) = pick (eqb a b) 1 0
as_this a at_field = 0

abbrev pub own_of : ℕ → Side → ℕ
own_of l used = 0
own_of l (at_letter b) = kind_count l field_then_letter
own_of l at_field = 0

-- how often letter a stands there
abbrev pub times_of : Census → ℕ → ℕ
times_of c a = get_or c.times a 0

-- At most 24 cells, at most 9 clauses for each letter, and no letter more often than there are letters.
pub record Few (c : Census) : Type 0 where
  pub cells : c.letters + c.places ≤ 24
  pub at_most : c.own ≤ c.letters * 9
  pub each : (a : ℕ) → a < 8 → times_of c a ≤ c.letters

-- a census with one cell more
pub record Added (l : ℕ) (v : Side) (before after : Census) : Type 0 where
  pub letters : after.letters ≡ before.letters + as_letter v
  pub places : after.places ≡ before.places + as_place v
  pub own : after.own ≡ before.own + own_of l v
  pub times : (a : ℕ) → a < 8 → times_of after a ≡ times_of before a + as_this a v

-- the first n bytes are cells
abbrev pub AllCells : List ℕ → ℕ → Type 0
AllCells right n = (j : ℕ) → j < n → side_of (get_or right j 0) ≡ used → ⊥

-- the census of the first n cells
pub record Counted (l : ℕ) (right : List ℕ) (n : ℕ) (c : Census) : Type 0 where
  pub letters : c.letters ≡ total n (λ j. as_letter (side_of (get_or right j 0)))
  pub places : c.places ≡ total n (λ j. as_place (side_of (get_or right j 0)))
  pub own : c.own ≡ total n (λ j. own_of l (side_of (get_or right j 0)))
  pub times : (a : ℕ) → a < 8 → times_of c a ≡ total n (λ j. as_this a (side_of (get_or right j 0)))

-- A row's clauses, by how many locations of each kind it has: one for each cell of the census, and the last, where the right template is used up.
abbrev pub row_of : ℕ → Side → Census → ℕ
row_of l used c = c.letters * kind_count l used_up_before_letter + c.places * kind_count l used_up_before_field + 1 * kind_count l both_used_up
row_of l (at_letter a) c =
    times_of c a * kind_count l same_letter_twice
    + (c.letters - times_of c a) * kind_count l different_letters
    + c.places * kind_count l letter_then_field
    + 1 * kind_count l used_up_before_letter
row_of l at_field c = c.own + c.places * kind_count l two_fields + 1 * kind_count l used_up_before_field
