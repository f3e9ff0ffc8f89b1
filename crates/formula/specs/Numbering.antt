-- The numbers of the variables, and clauses as numbers.
use Rattle.std.specs.Prelude.{◌≡◌, List, ◌++◌, map, ℕ, suc, ◌+◌, ◌*◌, ◌<◌, ◌≤◌, ℤ, pos, nat_abs, neg_ℤ, ◌+ℤ◌, ◌-ℤ◌, length}
use Rattle.model.specs.Lists.{each, up_to, total}
use Rattle.model.specs.Sheet.{Constraint, Sheet, limit, constraint}
use Rattle.formula.specs.Clause.{Variable, K, S, T, Literal, is, isnt, ClauseId, literals, least, spread, sums, blank, fields, left_cells, right_cells}

-- "Variables count from 1, all K, then S, then T." K "ordered by f, c, a".
unfoldable pub k_variables : Sheet → List Variable
k_variables s = each (up_to (fields s)) (λ f. each (up_to (limit s f)) (λ c. map (K f c) (up_to (suc (blank s)))))

-- "i from 0 to left width m, j from 0 to right width n; ordered by p, i, j"
unfoldable pub s_variables : Sheet → List Variable
s_variables s = each (up_to (length s.equations)) (λ p. each (up_to (suc (length (left_cells s p)))) (λ i. map (S p i) (up_to (suc (length (right_cells s p))))))

-- "k from 0 to V, s every whole number from the least to the greatest sum their limits allow; ordered by r, k, s"
unfoldable pub t_variables : Sheet → List Variable
t_variables s = each (up_to (length s.constraints)) (λ r. each (up_to (suc (fields s))) (λ k. map (T r k) (sums s (constraint s r) k)))

unfoldable pub variables : Sheet → List Variable
variables s = k_variables s ++ (s_variables s ++ t_variables s)

-- Which variables these are: their ranges. A sum is one of those from the least to the greatest.
abbrev pub SumIn : Sheet → Constraint → ℕ → ℤ → Type 0
SumIn s c k n =
    (n ≡ least s c k +ℤ pos (nat_abs (n -ℤ least s c k))) × (nat_abs (n -ℤ least s c k) ≤ spread s c k)

abbrev pub PlaceIn : Sheet → ℕ → ℕ → Type 0
PlaceIn s f c = (f < fields s) × (c < limit s f)

abbrev pub LocationIn : Sheet → ℕ → ℕ → ℕ → Type 0
LocationIn s p i j = (p < length s.equations) × (i ≤ length (left_cells s p)) × (j ≤ length (right_cells s p))

abbrev pub VariableIn : Sheet → Variable → Type 0
VariableIn s (K f c a) = PlaceIn s f c × (a ≤ blank s)
VariableIn s (S p i j) = LocationIn s p i j
VariableIn s (T r k n) = (r < length s.constraints) × (k ≤ fields s) × SumIn s (constraint s r) k n

-- How many variables a field, an equation, a constraint and each part of it has.
abbrev pub k_size : Sheet → ℕ → ℕ
k_size s f = limit s f * suc (blank s)

abbrev pub s_size : Sheet → ℕ → ℕ
s_size s p = suc (length (left_cells s p)) * suc (length (right_cells s p))

abbrev pub row_size : Sheet → ℕ → ℕ → ℕ
row_size s r k = suc (spread s (constraint s r) k)

abbrev pub t_size : Sheet → ℕ → ℕ
t_size s r = total (suc (fields s)) (row_size s r)

abbrev pub k_count : Sheet → ℕ
k_count s = total (fields s) (k_size s)

abbrev pub s_count : Sheet → ℕ
s_count s = total (length s.equations) (s_size s)

abbrev pub t_count : Sheet → ℕ
t_count s = total (length s.constraints) (t_size s)

unfoldable pub variable_count : Sheet → ℕ
variable_count s = k_count s + (s_count s + t_count s)

-- The number of a variable: in the order above they are 1, 2, .. (`Numbering.antt` of the proofs).
unfoldable pub number : Sheet → Variable → ℕ
number s (K f c a) = 1 + total f (k_size s) + c * suc (blank s) + a
number s (S p i j) = 1 + k_count s + total p (s_size s) + i * suc (length (right_cells s p)) + j
number s (T r k n) = 1 + k_count s + s_count s + total r (t_size s) + total k (row_size s r) + nat_abs (n -ℤ least s (constraint s r) k)

-- A literal as a number, "or a minus number"; a clause as numbers, "literals as listed".
abbrev pub signed_number : Sheet → Literal → ℤ
signed_number s (is x) = pos (number s x)
signed_number s (isnt x) = neg_ℤ (pos (number s x))

unfoldable pub clause : Sheet → ClauseId → List ℤ
clause s q = map (signed_number s) (literals s q)
