-- Rows: linear inequalities between lengths, over natural numbers and without signs. A row is fourteen numbers, seven for each side: what
-- the lengths of the six fields are multiplied by, and a number that is added. It holds when the first side is at most the second.
use Rattle.std.specs.Prelude.{Bool, List, [], ◌∷◌, ◌++◌, map, ◌≡◌, ℕ, suc, ◌+◌, ◌-◌, ◌*◌, ◌<◌, ◌≤◌, leb, ltb, eqb, ℤ, pos, negsuc, length, get_or, drop}
use Rattle.model.specs.Lists.{pick, each, up_to, all, total, placed}
use Rattle.model.specs.Sheet.{Symbol, letter, field, Equation, Constraint, Sheet, coefficient}
use Rattle.inequalities.specs.Asked.{asked}

-- one side of a row at these lengths, its seven numbers given first
unfoldable pub side_sum : List ℕ → List ℕ → ℕ
side_sum xs n = total 6 (λ f. get_or xs f 0 * get_or n f 0) + get_or xs 6 0

unfoldable pub row_holds : List ℕ → List ℕ → Bool
row_holds row n = leb (side_sum row n) (side_sum (drop 7 row) n)

-- whether even the least first side is above the greatest second side, for lengths from `lo` to `hi`
unfoldable pub hopeless_row : List ℕ → List ℕ → List ℕ → Bool
hopeless_row row lo hi = ltb (side_sum (drop 7 row) hi) (side_sum row lo)

-- several rows, one after the other in a flat list: whether all hold
unfoldable pub rows_hold : List ℕ → ℕ → List ℕ → Bool
rows_hold rows count n = all (λ i. row_holds (drop (14 * i) rows) n) (up_to count)

-- lengths from `lo` to `hi`, field by field
abbrev pub Within : List ℕ → List ℕ → List ℕ → Type 0
Within lo hi m = (f : ℕ) → f < 6 → (get_or lo f 0 ≤ get_or m f 0) × (get_or m f 0 ≤ get_or hi f 0)

-- The rows of an equation (document 01: a pair). Where a row counts a symbol: a field at the field's number, a letter at 6.
abbrev pub slot_of : Symbol → ℕ
slot_of (letter a) = 6
slot_of (field f) = f

unfoldable pub occurrences : List Symbol → ℕ → ℕ
occurrences [] k = 0
occurrences (x ∷ xs) k = pick (eqb (slot_of x) k) 1 0 + occurrences xs k

abbrev pub letters : List Symbol → ℕ
letters t = occurrences t 6

-- how much more often a symbol occurs in the one template than in the other
abbrev pub excess : List Symbol → List Symbol → ℕ → ℕ
excess more less k = occurrences more k - occurrences less k

-- a side of a row: what the lengths are multiplied by, and what is added
abbrev pub side : (ℕ → ℕ) → ℕ → List ℕ
side factor more = map factor (up_to 6) ++ (more ∷ [])

-- that the left template spells a word no longer than the right: a field's occurrences in both are left out
unfoldable pub equation_row : List Symbol → List Symbol → List ℕ
equation_row left right = side (excess left right) (letters left) ++ side (excess right left) (letters right)

abbrev pub equation_rows : Equation → List (List ℕ)
equation_rows e = equation_row e.left e.right ∷ equation_row e.right e.left ∷ []

-- The row of a constraint. "A rule holds when the sum of coefficient × field length is at most the limit."; what is negative there stands
-- on the other side here.
abbrev pub positive : ℤ → ℕ
positive (pos n) = n
positive (negsuc n) = 0

abbrev pub negative : ℤ → ℕ
negative (pos n) = 0
negative (negsuc n) = suc n

unfoldable pub constraint_row : Constraint → List ℕ
constraint_row r =
    side (λ f. positive (coefficient r f)) (negative r.most) ++ side (λ f. negative (coefficient r f)) (positive r.most)

abbrev pub constraint_rows : Constraint → List (List ℕ)
constraint_rows r = constraint_row r ∷ []

-- The rows of the asked equations, two each, and of the asked constraints, one each; and rows as a flat list.
unfoldable pub gathered : Sheet → List Bool → List Bool → List (List ℕ)
gathered s equations constraints = each (asked equations s.equations) equation_rows ++ each (asked constraints s.constraints) constraint_rows

abbrev pub flat : List (List ℕ) → List ℕ
flat rows = each rows (λ row. row)

-- What gathering leaves: these rows at the front of the list, at most twelve.
pub record Gathered (s : Sheet) (equations constraints : List Bool) (before after : List ℕ) (count : ℕ) : Type 0 where
  pub many : count ≡ length (gathered s equations constraints)
  pub few : count ≤ 12
  pub written : after ≡ placed before 0 (flat (gathered s equations constraints))
