-- How many clauses there are, part by part, and which of a location's clauses are not left out: the forms in which the clauses are
-- counted and found, and how sums follow on each other (`rise`). `Totals.antt`, `Finding.antt` and `Integers.antt` of the proofs show that these are the
-- clauses and the sums of `Clause.antt`.
use Rattle.std.specs.Prelude.{List, [], ◌∷◌, ◌++◌, map, ℕ, suc, ◌+◌, ◌-◌, ◌*◌, ◌<◌, ◌≤◌, ltb, eqb, ℤ, pos, negsuc, ◌-ℤ◌, length}
use Rattle.std.specs.Int.Signed.{lt_z}
use Rattle.model.specs.Lists.{pick, from, up_to, keep, total}
use Rattle.model.specs.Sheet.{Constraint, Sheet, limit, constraint}
use Rattle.formula.specs.Clause.{ClauseId, SomeValue, NotBoth, BlankTail, Start, Left, Right, Both, Match, End, Zero, Add, Bound, least, spread, sums, blank, fields, left_cells, right_cells}
use Rattle.formula.specs.Kind.{Side, used, at_letter, at_field, side, kind, kind_count, locations_of, ticked}
use Rattle.formula.specs.Numbering.{PlaceIn, LocationIn, SumIn, k_size, s_size, t_size}

-- Which names there are: their ranges.
abbrev pub IdIn : Sheet → ClauseId → Type 0
IdIn s (SomeValue f c) = PlaceIn s f c
IdIn s (NotBoth f c a b) = PlaceIn s f c × (a < b) × (b ≤ blank s)
IdIn s (BlankTail f c) = PlaceIn s f c × (suc c < limit s f)
IdIn s (Start p) = p < length s.equations
IdIn s (Left p i j) = LocationIn s p i j × (i < length (left_cells s p))
IdIn s (Right p i j) = LocationIn s p i j × (j < length (right_cells s p))
IdIn s (Both p i j) = LocationIn s p i j × (i < length (left_cells s p)) × (j < length (right_cells s p))
IdIn s (Match p i j a) = LocationIn s p i j × (i < length (left_cells s p)) × (j < length (right_cells s p)) × (a < blank s)
IdIn s (End p i j) = LocationIn s p i j
IdIn s (Zero r) = r < length s.constraints
IdIn s (Add r k n d) = (r < length s.constraints) × (k < fields s) × SumIn s (constraint s r) k n × (d ≤ limit s k)
IdIn s (Bound r n) = (r < length s.constraints) × SumIn s (constraint s r) (fields s) n

-- The clauses of location (i, j) of equation p that are not left out, with l letters.
abbrev pub standing : ℕ → ℕ → ℕ → ℕ → Side → Side → List ClauseId
standing l p i j used used = []
standing l p i j used (at_letter b) = End p i j ∷ []
standing l p i j used at_field = Right p i j ∷ End p i j ∷ []
standing l p i j (at_letter a) used = End p i j ∷ []
standing l p i j (at_letter a) (at_letter b) = Both p i j ∷ pick (eqb a b) [] (Match p i j a ∷ [])
standing l p i j (at_letter a) at_field = Right p i j ∷ Both p i j ∷ Match p i j a ∷ []
standing l p i j at_field used = Left p i j ∷ End p i j ∷ []
standing l p i j at_field (at_letter b) = Left p i j ∷ Both p i j ∷ map (Match p i j) (up_to b ++ from (suc b) (l - suc b))
standing l p i j at_field at_field = Left p i j ∷ Right p i j ∷ Both p i j ∷ map (Match p i j) (up_to l)

-- how many they are: those of the location's kind
abbrev pub location_count : ℕ → Side → Side → ℕ
location_count l u v = kind_count l (kind u v)

-- Of a place of a field: the pairs of two values, and all of place c of a field with limit n; of field f.
abbrev pub not_both_count : ℕ → ℕ
not_both_count l = total (suc l) (λ a. l - a)

abbrev pub place_count : ℕ → ℕ → ℕ → ℕ
place_count l n c = 1 + (not_both_count l + pick (ltb (suc c) n) 1 0)

abbrev pub field_count : Sheet → ℕ → ℕ
field_count s f = total (limit s f) (place_count (blank s) (limit s f))

-- Of a location and a row of locations (all j at one i); of equation p.
abbrev pub location_size : Sheet → ℕ → ℕ → ℕ → ℕ
location_size s p i j = location_count (blank s) (side (left_cells s p) i) (side (right_cells s p) j)

abbrev pub row_count : Sheet → ℕ → ℕ → ℕ
row_count s p i = total (suc (length (right_cells s p))) (location_size s p i)

unfoldable pub equation_count : Sheet → ℕ → ℕ
equation_count s p = 1 + total (suc (length (left_cells s p))) (row_count s p)

-- Of field k's step under constraint r.
abbrev pub step_count : Sheet → ℕ → ℕ → ℕ
step_count s r k = suc (spread s (constraint s r) k) * suc (limit s k)

-- how far coefficient × length d is above the lowest that a limit of n allows
abbrev pub rise : ℤ → ℕ → ℕ → ℕ
rise (pos a) n d = a * d
rise (negsuc a) n d = suc a * n - suc a * d

-- Of the w sums from `least` on those that are at most the limit come first: so many.
abbrev pub at_most : ℤ → ℕ → ℕ
at_most (pos d) w = pick (ltb d w) (suc d) w
at_most (negsuc d) w = 0

unfoldable pub within : Sheet → Constraint → ℕ
within s r = at_most (r.most -ℤ least s r (fields s)) (suc (spread s r (fields s)))

-- of constraint r, the last of them for the final sums above its limit
unfoldable pub constraint_count : Sheet → ℕ → ℕ
constraint_count s r = 1 + (total (fields s) (step_count s r) + (suc (spread s (constraint s r) (fields s)) - within s (constraint s r)))

-- of all fields, all equations, and all there are
abbrev pub k_clauses : Sheet → ℕ
k_clauses s = total (fields s) (field_count s)

abbrev pub s_clauses : Sheet → ℕ
s_clauses s = total (length s.equations) (equation_count s)

unfoldable pub clause_count : Sheet → ℕ
clause_count s = k_clauses s + (s_clauses s + total (length s.constraints) (constraint_count s))

-- C as it is added up by hand: the places of all fields; for each equation 1 for S(p,0,0), and its locations by their kinds; for each constraint 1
-- for T(r,0,0), its steps, which are as many as sums times lengths, and its final sums above the limit.
abbrev pub added_up : Sheet → ℕ
added_up s =
    total (fields s) (λ f. total (limit s f) (place_count (blank s) (limit s f)))
    + (total (length s.equations) (λ p. 1 + ticked (locations_of s p) (kind_count (blank s)))
    + total (length s.constraints) (λ r. 1
    + (total (fields s) (λ k. length (sums s (constraint s r) k) * suc (limit s k))
    + length (keep (lt_z (constraint s r).most) (sums s (constraint s r) (fields s))))))

-- The clauses before those of place c of field f, of equation p, of constraint r.
abbrev pub place_start : Sheet → ℕ → ℕ → ℕ
place_start s f c = total f (field_count s) + total c (place_count (blank s) (limit s f))

abbrev pub equation_start : Sheet → ℕ → ℕ
equation_start s p = k_clauses s + total p (equation_count s)

abbrev pub constraint_start : Sheet → ℕ → ℕ
constraint_start s r = k_clauses s + (s_clauses s + total r (constraint_count s))

-- The three sections of the variables and of the clauses: of the fields, of the equations, of the constraints.
pub data Section : Type 0 where
  of_fields : Section
  of_equations : Section
  of_constraints : Section

-- how many parts a section has, how many variables and clauses each of them has, and how many clauses come before them
abbrev pub parts : Sheet → Section → ℕ
parts s of_fields = fields s
parts s of_equations = length s.equations
parts s of_constraints = length s.constraints

abbrev pub variable_counts : Sheet → Section → ℕ → ℕ
variable_counts s of_fields = k_size s
variable_counts s of_equations = s_size s
variable_counts s of_constraints = t_size s

abbrev pub part_counts : Sheet → Section → ℕ → ℕ
part_counts s of_fields = field_count s
part_counts s of_equations = equation_count s
part_counts s of_constraints = constraint_count s

abbrev pub section_start : Sheet → Section → ℕ
section_start s of_fields = 0
section_start s of_equations = k_clauses s
section_start s of_constraints = k_clauses s + s_clauses s
