-- The text that the programs print: for a clash the search and reply programs, where a sheet is apart the search program, for a refusal
-- each, and the clause program's file. "prints `clash`, `field 0=A`, `pair 0=A`: each field's number and text, each pair's number and text." Every line ends in 0x0A. Fields
-- and pairs are few, so that a number is one digit.
use Rattle.std.specs.Prelude.{List, [], ◌∷◌, ◌++◌, ℕ, ◌+◌, ◌*◌, length}
use Rattle.model.specs.Lists.{pick, each, up_to}
use Rattle.model.specs.Sheet.{Sheet, equation, read}
use Rattle.model.specs.Word.{Substitution, text, spell, letter_bytes}
use Rattle.model.specs.Solvable.{solvable}
use Rattle.model.specs.Order.{first_solution}
use Rattle.model.specs.Filling.{filling, substitution_in}
use Rattle.formula.specs.Dimacs.{decimal, file}
use Rattle.calls.specs.Calls.{Answer, refused, finished, of_sheet}

-- "clash", and a line end
abbrev pub clash_line : List ℕ
clash_line = 99 ∷ 108 ∷ 97 ∷ 115 ∷ 104 ∷ 10 ∷ []

-- a name with a space after it, a number, "=", a text, a line end
abbrev pub labelled_line : List ℕ → ℕ → List ℕ → List ℕ
labelled_line name n t = name ++ (((48 + n) ∷ 61 ∷ []) ++ (t ++ (10 ∷ [])))

-- "field " and "pair "
abbrev pub field_name : List ℕ
field_name = 102 ∷ 105 ∷ 101 ∷ 108 ∷ 100 ∷ 32 ∷ []

abbrev pub pair_name : List ℕ
pair_name = 112 ∷ 97 ∷ 105 ∷ 114 ∷ 32 ∷ []

abbrev pub field_line : Sheet → Substitution → ℕ → List ℕ
field_line s g f = labelled_line field_name f (letter_bytes s (text g f))

-- in a clash both sides spell it; it is taken from the left
abbrev pub pair_line : Sheet → Substitution → ℕ → List ℕ
pair_line s g p = labelled_line pair_name p (letter_bytes s (spell g (equation s p).left))

unfoldable pub report : Sheet → Substitution → List ℕ
report s g = clash_line ++ (each (up_to (length s.limits)) (field_line s g) ++ each (up_to (length s.equations)) (pair_line s g))

-- The greatest sizes: six lines of fields with eight letters each, four of pairs with 24, and all.
abbrev pub most_field_lines : ℕ
most_field_lines = 6 * (6 + 2 + 8 + 1)

abbrev pub most_pair_lines : ℕ
most_pair_lines = 4 * (5 + 2 + 24 + 1)

abbrev pub most_report : ℕ
most_report = length clash_line + most_field_lines + most_pair_lines

-- "On a refusal each program prints only `refused`, a space and the number."
unfoldable pub refused_line : ℕ → List ℕ
refused_line n = (114 ∷ 101 ∷ 102 ∷ 117 ∷ 115 ∷ 101 ∷ 100 ∷ 32 ∷ []) ++ (decimal n ++ (10 ∷ []))

-- What is printed for the answer of a call that hands a filling over.
abbrev pub printed : Sheet → Answer → List ℕ
printed s (refused n) = refused_line n
printed s (finished m) = report s (substitution_in (filling s m))

-- "Otherwise it prints `apart`", and a line end
abbrev pub apart_line : List ℕ
apart_line = 97 ∷ 112 ∷ 97 ∷ 114 ∷ 116 ∷ 10 ∷ []

-- What is printed for an answer whose values are a text's bytes.
abbrev pub answer_text : Answer → List ℕ
answer_text (refused n) = refused_line n
answer_text (finished values) = values

-- the report of the first solution, or `apart`
abbrev pub search_text : Sheet → List ℕ
search_text s = pick (solvable s) (report s (first_solution s)) apart_line

-- What the search program prints for the bytes b: that of the sheet, or the refusal.
unfoldable pub search_printed : List ℕ → List ℕ
search_printed b = answer_text (of_sheet (read b) (λ s. finished (search_text s)))

-- "The clause program, sheet on standard input, prints" the clause file, or the refusal.
unfoldable pub clauses_printed : List ℕ → List ℕ
clauses_printed b = answer_text (of_sheet (read b) (λ s. finished (file s)))
