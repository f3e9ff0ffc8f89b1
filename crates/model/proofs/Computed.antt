-- Reading, computed. Two sheets read in full, the second with parts that differ from each other: what stands where. And damaged sheets,
-- most with two faults at once, with the refusal that is given: the order of the refusals. Assumes nothing.
use mathlib.Core.Path.{◌≡◌, refl}
use mathlib.Core.List.{List, [], ◌∷◌, ◌++◌, map}
use Prim.Native.Nat.{ℕ}
use Rattle.model.specs.Lists.{starts_with}
use lib.IntN.{pos, negsuc}
use Rattle.model.specs.Sheet.{letter, field, mark, row, times, sides, an_equation, a_constraint, walk, width, signed, opening, accepted, refused, read}

-- a sheet of version 1 from its four counts on
abbrev pub sheet : ℕ → ℕ → ℕ → ℕ → List ℕ → List ℕ
sheet l v e r xs = mark ++ (0 ∷ 1 ∷ l ∷ v ∷ e ∷ r ∷ xs)

-- document 01's sheet P: "one field X of limit 1 against A"
abbrev pub P : List ℕ
P = sheet 1 1 1 0 (65 ∷ 1 ∷ 1 ∷ 1 ∷ 128 ∷ 0 ∷ [])

pub read_P : read P ≡ accepted (record
    { letters = 65 ∷ []; limits = 1 ∷ []; equations = record { left = field 0 ∷ []; right = letter 0 ∷ [] } ∷ []; constraints = [] })
unfolding starts_with row times sides an_equation a_constraint walk width signed opening read
read_P = refl

-- two letters, two fields, two equations, two constraints
abbrev pub parts : List ℕ
parts =
    sheet 2 2 2 2
    (65 ∷ 66
    ∷ 2 ∷ 1
    ∷ 3 ∷ 1 ∷ 128 ∷ 0 ∷ 129 ∷ 1
    ∷ 0 ∷ 1 ∷ 129
    ∷ 252 ∷ 3 ∷ 255 ∷ 254
    ∷ 0 ∷ 4 ∷ 1 ∷ 2
    ∷ [])

pub read_in_full : read parts ≡ accepted (record {
  letters = 65 ∷ 66 ∷ [];
  limits = 2 ∷ 1 ∷ [];
  equations =
      record { left = field 0 ∷ letter 0 ∷ field 1 ∷ []; right = letter 1 ∷ [] }
      ∷ record { left = []; right = field 1 ∷ [] }
      ∷ [];
  constraints =
      record { coefficients = negsuc 3 ∷ pos 3 ∷ []; most = negsuc 1 }
      ∷ record { coefficients = pos 0 ∷ pos 4 ∷ []; most = pos 258 }
      ∷ [];
})
unfolding starts_with row times sides an_equation a_constraint walk width signed opening read
read_in_full = refl

-- a damaged sheet and its first refusal
pub record Case : Type 0 where
  pub bytes : List ℕ
  pub first : ℕ

abbrev ◌gives◌ : List ℕ → ℕ → Case
◌gives◌ b n = record { bytes = b; first = n }

infix 5 ◌gives◌
abbrev damaged : List Case
damaged =
    -- the header: each fault before the next
    (84 ∷ 80 ∷ 77 ∷ 0 ∷ 2 ∷ [] gives 1)
    ∷ (84 ∷ 80 ∷ 77 ∷ 0 ∷ 2 ∷ 1 ∷ 0 ∷ 1 ∷ 0 ∷ [] gives 2)
    ∷ (84 ∷ 80 ∷ 76 ∷ 1 ∷ 1 ∷ 0 ∷ 0 ∷ 1 ∷ 0 ∷ [] gives 3)
    ∷ (sheet 9 7 1 0 [] gives 4)
    ∷ (sheet 1 7 0 0 [] gives 5)
    ∷ (sheet 1 0 5 5 [] gives 6)
    ∷ (sheet 1 0 1 5 [] gives 7)
    ∷ (sheet 0 0 1 0 (0 ∷ 0 ∷ []) gives 4)
    ∷ (sheet 1 0 0 0 (65 ∷ []) gives 6)
    -- a byte that is missing, and one that is out of range before it: of the letters, the limits, the symbols, the coefficients
    ∷ (sheet 1 0 1 0 [] gives 8)
    ∷ (sheet 2 0 1 0 (127 ∷ []) gives 10)
    ∷ (sheet 2 0 1 0 (32 ∷ []) gives 10)
    ∷ (sheet 1 2 1 0 (65 ∷ 9 ∷ []) gives 11)
    ∷ (sheet 1 0 1 0 (65 ∷ 1 ∷ 1 ∷ 1 ∷ []) gives 13)
    ∷ (sheet 1 2 1 1 (65 ∷ 1 ∷ 1 ∷ 0 ∷ 0 ∷ 5 ∷ []) gives 15)
    -- letters that do not rise, and a limit
    ∷ (sheet 2 1 1 0 (65 ∷ 65 ∷ 9 ∷ 0 ∷ 0 ∷ []) gives 10)
    ∷ (sheet 2 0 1 0 (66 ∷ 65 ∷ 0 ∷ 0 ∷ []) gives 10)
    -- a limit and a symbol count
    ∷ (sheet 1 1 1 0 (65 ∷ 9 ∷ 13 ∷ 0 ∷ []) gives 11)
    -- a left count, and no right count; a right count, and a left symbol
    ∷ (sheet 1 0 1 0 (65 ∷ 13 ∷ []) gives 12)
    ∷ (sheet 1 0 1 0 (65 ∷ 1 ∷ 13 ∷ 1 ∷ []) gives 12)
    -- a symbol, and bytes left over
    ∷ (sheet 1 1 1 0 (65 ∷ 1 ∷ 1 ∷ 0 ∷ 129 ∷ 0 ∷ []) gives 13)
    -- a left side that is too wide, with a right symbol that is bad, then missing, then good; and with a bad count in the next equation
    ∷ (sheet 1 1 1 0 (65 ∷ 8 ∷ 4 ∷ 1 ∷ 128 ∷ 128 ∷ 128 ∷ 0 ∷ 1 ∷ []) gives 13)
    ∷ (sheet 1 1 1 0 (65 ∷ 8 ∷ 4 ∷ 1 ∷ 128 ∷ 128 ∷ 128 ∷ 0 ∷ []) gives 8)
    ∷ (sheet 1 1 1 0 (65 ∷ 8 ∷ 4 ∷ 1 ∷ 128 ∷ 128 ∷ 128 ∷ 0 ∷ 0 ∷ []) gives 14)
    ∷ (sheet 1 1 2 0 (65 ∷ 8 ∷ 4 ∷ 0 ∷ 128 ∷ 128 ∷ 128 ∷ 0 ∷ 13 ∷ 0 ∷ []) gives 14)
    -- a right side that is too wide, and a coefficient
    ∷ (sheet 1 1 1 1 (65 ∷ 8 ∷ 0 ∷ 4 ∷ 128 ∷ 128 ∷ 128 ∷ 0 ∷ 251 ∷ 0 ∷ 0 ∷ []) gives 14)
    -- a coefficient, and half of the constraint's limit; then that half alone
    ∷ (sheet 1 1 1 1 (65 ∷ 1 ∷ 0 ∷ 0 ∷ 251 ∷ 0 ∷ []) gives 15)
    ∷ (sheet 1 1 1 1 (65 ∷ 1 ∷ 0 ∷ 0 ∷ 252 ∷ 0 ∷ []) gives 8)
    -- a coefficient, and bytes left over; then those alone, on sheet P
    ∷ (sheet 1 1 1 1 (65 ∷ 1 ∷ 0 ∷ 0 ∷ 5 ∷ 0 ∷ 0 ∷ 0 ∷ []) gives 15)
    ∷ (sheet 1 1 1 0 (65 ∷ 1 ∷ 1 ∷ 1 ∷ 128 ∷ 0 ∷ 0 ∷ []) gives 9)
    ∷ []

pub first_refusals : map (λ (c : Case). read c.bytes) damaged ≡ map (λ (c : Case). refused c.first) damaged
unfolding starts_with row times sides an_equation a_constraint walk width signed opening read
first_refusals = refl
