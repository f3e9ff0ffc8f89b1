-- Literals as codes, as SAT solvers keep them: twice the variable's number, and one more for its negation; 0 for none.
use Rattle.std.specs.Prelude.{List, [], ◌∷◌, ◌++◌, ℕ, ◌+◌, ◌*◌, ◌/◌, ◌%◌, eqb, length}
use Rattle.model.specs.Lists.{pick, each}
use Rattle.model.specs.Sheet.{Sheet}
use Rattle.formula.specs.Clause.{Literal, is, isnt, Term, known, unknown}
use Rattle.formula.specs.Numbering.{number}
use Rattle.formula.specs.Dimacs.{decimal}

-- the code of a literal, and of a literal as document 01 writes it in a clause: 0 where it is known
abbrev pub code_of : Sheet → Literal → ℕ
code_of s (is x) = 2 * number s x
code_of s (isnt x) = 2 * number s x + 1

abbrev pub term_code : Sheet → Term → ℕ
term_code s (known b) = 0
term_code s (unknown l) = code_of s l

-- what is written of a code
abbrev pub sign : ℕ → List ℕ
sign code = pick (eqb (code % 2) 0) [] (45 ∷ [])

unfoldable pub code_bytes : ℕ → List ℕ
code_bytes code = pick (eqb code 0) [] (sign code ++ (decimal (code / 2) ++ (32 ∷ [])))

unfoldable pub codes_line : List ℕ → List ℕ
codes_line codes = each codes code_bytes ++ (48 ∷ 10 ∷ [])

-- how many bytes that is, of one code and of a line
abbrev pub code_size : ℕ → ℕ
code_size code = length (code_bytes code)

abbrev pub line_size : List ℕ → ℕ
line_size codes = length (codes_line codes)

-- The greatest code of a variable, of which there are at most 5,648; and a bound for the codes that follow from one by adding.
abbrev pub most_code : ℕ
most_code = 2 * 5648

abbrev pub large_code : ℕ
large_code = 20000
