-- A solver's reply (the SAT competition's output form): its lines and numbers, what is refused in it, the assignment that it lists, and what the
-- places of the fields then hold.
use Rattle.std.specs.Prelude.{◌≡◌, Bool, true, false, not, ◌&&◌, ◌||◌, List, [], ◌∷◌, ◌++◌, map, ℕ, ◌-◌, ◌≤◌, leb, eqb, ℤ, pos, negsuc, nat_abs, length, get_or, drop}
use Rattle.model.specs.Lists.{pick, between, starts_with, same, each, up_to, all, any, when, keep}
use Rattle.model.specs.Sheet.{Sheet, limit}
use Rattle.formula.specs.Clause.{blank, fields}
use Rattle.formula.specs.Numbering.{variables}
use Rattle.formula.specs.Dimacs.{numbers}
use Rattle.formula.specs.Assignment.{Assignment, true_values, held}

-- The stretches of a list that an end byte closes, without these bytes. What follows the last of them is one too if it is not empty.
abbrev pub opened : Bool → ℕ → List (List ℕ) → List (List ℕ)
opened true x ps = [] ∷ ps
opened false x [] = (x ∷ []) ∷ []
opened false x (p ∷ ps) = (x ∷ p) ∷ ps

unfoldable pub split : ℕ → List ℕ → List (List ℕ)
split end [] = []
split end (x ∷ xs) = opened (eqb x end) x (split end xs)

-- A text's lines; and the pieces of a line between spaces, the last being closed as the others are.
abbrev pub lines : List ℕ → List (List ℕ)
lines t = split 10 t

abbrev pub spaced : List ℕ → List ℕ
spaced l = l ++ (32 ∷ [])

abbrev pub pieces : List ℕ → List (List ℕ)
pieces l = split 32 (spaced l)

-- "31 not empty and the last byte is not 0x0A"
unfoldable pub line_ended : List ℕ → Bool
line_ended t = eqb (length t) 0 || eqb (get_or t (length t - 1) 0) 10

-- "A number is 0, or an optional minus and 1 to 9 digits, the first not 0."
abbrev pub figure : ℕ → Bool
figure x = between 48 57 x

abbrev pub magnitude : List ℕ → Bool
magnitude ds = between 1 9 (length ds) && (all figure ds && not (starts_with (48 ∷ []) ds))

abbrev pub signless : List ℕ → List ℕ
signless p = pick (starts_with (45 ∷ []) p) (drop 1 p) p

unfoldable pub is_number : List ℕ → Bool
is_number p = same p (48 ∷ []) || magnitude (signless p)

-- "Known lines: those starting with c, skipped; `s SATISFIABLE`; v followed by none or more of one space and a number." So the pieces of a v
-- line are `v` and then numbers.
abbrev pub satisfiable_line : List ℕ
satisfiable_line = 115 ∷ 32 ∷ 83 ∷ 65 ∷ 84 ∷ 73 ∷ 83 ∷ 70 ∷ 73 ∷ 65 ∷ 66 ∷ 76 ∷ 69 ∷ []

abbrev pub comment : List ℕ → Bool
comment l = starts_with (99 ∷ []) l

abbrev pub status_line : List ℕ → Bool
status_line l = same l satisfiable_line

abbrev pub v_pieces : List (List ℕ) → Bool
v_pieces [] = false
v_pieces (p ∷ ps) = same p (118 ∷ []) && all is_number ps

unfoldable pub value_line : List ℕ → Bool
value_line l = v_pieces (pieces l)

-- "32 a line of no known form"
unfoldable pub known : List ℕ → Bool
known l = comment l || (status_line l || value_line l)

-- "33 not just one s line, or a v line before it"
unfoldable pub before : {A : Type 0} → (A → Bool) → List A → List A
before p [] = []
before p (x ∷ xs) = pick (p x) [] (x ∷ before p xs)

unfoldable pub one_status : List (List ℕ) → Bool
one_status ls = eqb (length (keep status_line ls)) 1 && not (any value_line (before status_line ls))

-- The text's numbers in text order: those that its v lines list after `v` and the space.
unfoldable pub line_numbers : List ℕ → List ℤ
line_numbers l = when (value_line l) (numbers (drop 2 (spaced l)))

unfoldable pub given : List ℕ → List ℤ
given t = each (lines t) line_numbers

-- "34 no number 0, or a number after it": the first 0 is the last number
abbrev pub is_empty : List ℤ → Bool
is_empty [] = true
is_empty (z ∷ zs) = false

unfoldable pub closed : List ℤ → Bool
closed [] = false
closed (z ∷ zs) = pick (eqb (nat_abs z) 0) (is_empty zs) (closed zs)

-- "35 magnitude above the variable count"
unfoldable pub in_count : ℕ → List ℤ → Bool
in_count count zs = all (λ z. leb (nat_abs z) count) zs

-- "36 a variable given twice", by its magnitude. That the 0 is there once only is 34's.
unfoldable pub distinct : List ℕ → Bool
distinct [] = true
distinct (n ∷ ns) = not (any (eqb n) ns) && distinct ns

abbrev pub given_once : List ℤ → Bool
given_once zs = distinct (map nat_abs zs)

-- "Variables not listed, or listed negative, are false."
abbrev pub is_plus : ℕ → ℤ → Bool
is_plus n (pos m) = eqb m n
is_plus n (negsuc m) = false

unfoldable pub assigned : List ℕ → Assignment
assigned t n = any (is_plus n) (given t)

-- "A text lists an assignment in the reply form when it breaks none of 31 to 36 and the variables it makes true are just those the
-- assignment makes true." An assignment is of the variables from 1 to their count.
pub record Lists (s : Sheet) (t : List ℕ) (w : Assignment) : Type 0 where
  pub keeps31 : line_ended t ≡ true
  pub keeps32 : all known (lines t) ≡ true
  pub keeps33 : one_status (lines t) ≡ true
  pub keeps34 : closed (given t) ≡ true
  pub keeps35 : in_count (length (variables s)) (given t) ≡ true
  pub keeps36 : given_once (given t) ≡ true
  pub same_truth : (n : ℕ) → 1 ≤ n → n ≤ length (variables s) → assigned t n ≡ w n

-- "37 a place of a field, used in a template or not, without just one true value"
unfoldable pub all_single : Sheet → Assignment → Bool
all_single s w = all (λ f. all (λ c. eqb (length (true_values s w f c)) 1) (up_to (limit s f))) (up_to (fields s))

-- "38 a letter after a blank in a field": of the values at a field's places, l being blank
unfoldable pub blanks_last : ℕ → List ℕ → Bool
blanks_last l [] = true
blanks_last l (h ∷ hs) = pick (eqb h l) (all (λ x. eqb x l) hs) (blanks_last l hs)

unfoldable pub none_after_blank : Sheet → Assignment → Bool
none_after_blank s w = all (λ f. blanks_last (blank s) (map (held s w f) (up_to (limit s f)))) (up_to (fields s))
