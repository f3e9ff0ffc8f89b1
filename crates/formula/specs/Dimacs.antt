-- The clause file: its lines as bytes, its size, and the numbers that a line's bytes list.
use Rattle.std.specs.Prelude.{Bool, false, ◌||◌, List, [], ◌∷◌, ◌++◌, ℕ, zero, suc, ◌+◌, ◌-◌, ◌*◌, ◌/◌, ◌%◌, ltb, eqb, ℤ, pos, negsuc, neg_ℤ, length}
use Rattle.model.specs.Lists.{pick, each, up_to, when, total}
use Rattle.model.specs.Sheet.{Sheet}
use Rattle.formula.specs.Clause.{ids, id_at}
use Rattle.formula.specs.Numbering.{variables, clause}

-- A number in decimal: of at most k + 1 digits, and a number n has no more than n + 1.
unfoldable pub digits : ℕ → ℕ → List ℕ
digits zero n = (48 + n) ∷ []
digits (suc k) n = pick (ltb n 10) ((48 + n) ∷ []) (digits k (n / 10) ++ ((48 + n % 10) ∷ []))

unfoldable pub decimal : ℕ → List ℕ
decimal n = digits n n

-- The number that figures say, n being said by those before them.
abbrev pub with_figure : ℕ → ℕ → ℕ
with_figure n x = n * 10 + (x - 48)

unfoldable pub value_from : ℕ → List ℕ → ℕ
value_from n [] = n
value_from n (x ∷ xs) = value_from (with_figure n x) xs

abbrev pub value_of : List ℕ → ℕ
value_of xs = value_from 0 xs

-- In decimal with a minus before it where it is negative.
abbrev pub decimalℤ : ℤ → List ℕ
decimalℤ (pos n) = decimal n
decimalℤ (negsuc n) = 45 ∷ decimal (suc n)

-- "Line 0 is `p cnf`, variable count, C". "One space between, 0x0A at the end."
unfoldable pub problem_line : ℕ → ℕ → List ℕ
problem_line vars clauses =
    (112 ∷ 32 ∷ 99 ∷ 110 ∷ 102 ∷ 32 ∷ []) ++ (decimal vars ++ ((32 ∷ []) ++ (decimal clauses ++ (10 ∷ []))))

-- "line n is clause n, literals as listed, then 0. One space between, 0x0A at the end."
abbrev pub literal_bytes : ℤ → List ℕ
literal_bytes z = decimalℤ z ++ (32 ∷ [])

unfoldable pub clause_line : List ℤ → List ℕ
clause_line zs = each zs literal_bytes ++ (48 ∷ 10 ∷ [])

unfoldable pub line : Sheet → ℕ → List ℕ
line s zero = problem_line (length (variables s)) (length (ids s))
line s (suc n) = clause_line (clause s (id_at s n))

-- The file, lines 0 to C.
unfoldable pub file : Sheet → List ℕ
file s = each (up_to (suc (length (ids s)))) (line s)

-- Document 02, No. 4: "The size is now to be exactly the sum of all line lengths".
unfoldable pub file_size : Sheet → ℕ
file_size s = total (suc (length (ids s))) (λ n. length (line s n))

-- The greatest size of a file: at most 47,600 clauses and line 0, each of at most 38 bytes.
abbrev pub most_file : ℕ
most_file = 47601 * 38

-- The numbers that a line's bytes list, each up to the space or the line end after it: `minus` says whether a minus was met since the
-- last of these, n is the value of the digits since then.
abbrev pub ends : ℕ → Bool
ends x = eqb x 32 || eqb x 10

abbrev pub with_sign : Bool → ℕ → ℤ
with_sign minus n = pick minus (neg_ℤ (pos n)) (pos n)

unfoldable pub numbers_from : Bool → ℕ → List ℕ → List ℤ
numbers_from minus n [] = []
numbers_from minus n (x ∷ xs) =
    when (ends x) (with_sign minus n ∷ [])
    ++ numbers_from (pick (ends x) false (minus || eqb x 45)) (pick (ends x || eqb x 45) 0 (with_figure n x)) xs

abbrev pub numbers : List ℕ → List ℤ
numbers xs = numbers_from false 0 xs
