-- Checking, spelling, counting, writing lines and files, searching and comparing a book's templates, without and with hours, computed: inputs with their answers, most of the damaged ones with two faults at once,
-- so that the order of the refusals is a theorem. Assumes nothing.
use mathlib.Core.Path.{◌≡◌, refl}
use mathlib.Core.List.{List, [], ◌∷◌, ◌++◌, map}
use Prim.Native.Nat.{ℕ}
use Rattle.model.specs.Lists.{starts_with, same, leading, each, from, all, any, keep, total}
use Rattle.model.specs.Sheet.{row, times, sides, an_equation, a_constraint, walk, width, signed, opening, read}
use Rattle.model.specs.Word.{spell, weight, same_letter, same_word, equation_holds, constraint_holds, keeps, solves}
use Rattle.model.specs.Mismatch.{agreeing, judged}
use Rattle.model.specs.Solvable.{all_texts, substitutions, solvable}
use Rattle.model.specs.Order.{total_length, field_letters, ranks, lex, earliest, first_solution}
use Rattle.model.specs.Filling.{places, a_text, texts, filling, encode_filling}
use Rattle.calls.specs.Report.{report, refused_line, search_printed}
use Rattle.model.specs.Cells.{cells}
use Rattle.formula.specs.Clause.{terms, left_out, literals, least, spread, sums, place_ids, location_ids, equation_ids, constraint_ids, listed, ids}
use Rattle.formula.specs.Numbering.{k_variables, s_variables, t_variables, variables, number, clause}
use Rattle.formula.specs.Dimacs.{digits, decimal, problem_line, clause_line, line, file, file_size}
use Rattle.calls.specs.Calls.{Answer, refused, finished, checking, spelling_of, spelling, written, searching_of, searching, counting, writing_of, writing, filing_of, filing, listing, comparing, comparing_hours}
use Rattle.model.proofs.Computed.{sheet, P}
use Rattle.book.specs.Book.{mark, count, some_symbols, a_template, some_templates, body, opens, read_book}
use Rattle.book.specs.Pairs.{pairs, clashing, list_bytes}
use Rattle.book.specs.Pairs as question
use Rattle.book.proofs.Computed.{book, three_bytes}
use Rattle.schedule.specs.Schedule.{minute, an_interval, some_intervals, tested, all_tested, read_hours}
use Rattle.schedule.specs.Shared.{sent, share, sharing}
use Rattle.schedule.proofs.Computed.{hours}

-- over A and B the fields X of limit 2 and Y of limit 1, and the pairs XAY, AY and Y, nothing
abbrev pub asked : List ℕ
asked = sheet 2 2 2 0 (65 ∷ 66 ∷ 2 ∷ 1 ∷ 3 ∷ 2 ∷ 128 ∷ 0 ∷ 129 ∷ 0 ∷ 129 ∷ 1 ∷ 0 ∷ 129 ∷ [])

-- and a byte left over
abbrev pub left_over_lem : List ℕ
left_over_lem = asked ++ (0 ∷ [])

-- no fields, A against A
abbrev pub fieldless : List ℕ
fieldless = sheet 1 0 1 0 (65 ∷ 1 ∷ 1 ∷ 0 ∷ 0 ∷ [])

-- X of limit 8 against X, and Y of limit 0; the rules 4 × X at most 32, and -4 × X + 4 × Y at most -32
abbrev pub ruled : List ℕ
ruled = sheet 1 2 1 2 (65 ∷ 8 ∷ 0 ∷ 1 ∷ 1 ∷ 128 ∷ 128 ∷ 4 ∷ 0 ∷ 0 ∷ 32 ∷ 252 ∷ 4 ∷ 255 ∷ 224 ∷ [])

-- BA against YX, of limit 2
abbrev several : List ℕ
several = sheet 2 2 1 0 (65 ∷ 66 ∷ 2 ∷ 2 ∷ 2 ∷ 2 ∷ 1 ∷ 0 ∷ 129 ∷ 128 ∷ [])

-- X of limit 1 against A, and the rule 1 × X at most -1, which nothing keeps
abbrev unruly : List ℕ
unruly = sheet 1 1 1 1 (65 ∷ 1 ∷ 1 ∷ 1 ∷ 128 ∷ 0 ∷ 1 ∷ 255 ∷ 255 ∷ [])

-- a field's nine bytes, from the first three on
abbrev pub nine : ℕ → ℕ → ℕ → List ℕ
nine n a b = n ∷ a ∷ b ∷ 255 ∷ 255 ∷ 255 ∷ 255 ∷ 255 ∷ 255 ∷ []

abbrev pub empty : List ℕ
empty = nine 0 255 255

pub record Check : Type 0 where
  pub on : List ℕ
  pub of : List ℕ
  pub answer : Answer

abbrev ◌checks◌ : List ℕ → Answer → Check
◌checks◌ m a = record { on = asked; of = m; answer = a }

infix 5 ◌checks◌
abbrev pub checked : List Check
checked =
    (empty ++ empty checks finished (1 ∷ []))
    -- X=A, Y empty: AA against A, one letter agrees. X=B, Y=A: BAA against AA, and X=BB, Y=B: BBAB against AB, none does
    ∷ (nine 1 0 255 ++ empty checks finished (0 ∷ 1 ∷ 0 ∷ 1 ∷ 0 ∷ 1 ∷ []))
    ∷ (nine 1 1 255 ++ nine 1 0 255 checks finished (0 ∷ 1 ∷ 0 ∷ 0 ∷ 0 ∷ 3 ∷ []))
    ∷ (nine 2 1 1 ++ nine 1 1 255 checks finished (0 ∷ 1 ∷ 0 ∷ 0 ∷ 0 ∷ 4 ∷ []))
    -- the first pair holds, the second does not: B against nothing
    ∷ (empty ++ nine 1 1 255 checks finished (0 ∷ 1 ∷ 1 ∷ 0 ∷ 0 ∷ 1 ∷ []))
    -- BA against BAA, the left text used up; and against nothing
    ∷ record { on = several; of = nine 1 0 255 ++ nine 2 1 0; answer = finished (0 ∷ 1 ∷ 0 ∷ 2 ∷ 1 ∷ 1 ∷ []) }
    ∷ record { on = several; of = empty ++ empty; answer = finished (0 ∷ 1 ∷ 0 ∷ 0 ∷ 0 ∷ 2 ∷ []) }
    -- nothing against A, and a rule broken: the pair is told; A against A: the rule
    ∷ record { on = unruly; of = empty; answer = finished (0 ∷ 1 ∷ 0 ∷ 0 ∷ 1 ∷ 1 ∷ []) }
    ∷ record { on = unruly; of = nine 1 0 255; answer = finished (0 ∷ 2 ∷ 0 ∷ 0 ∷ 0 ∷ 0 ∷ []) }
    -- the size, with a length above the limit
    ∷ ([] checks refused 20)
    ∷ (nine 3 0 0 checks refused 20)
    ∷ (nine 3 0 0 ++ (empty ++ (0 ∷ [])) checks refused 20)
    -- a length above the limit, with a letter number and a place past the length
    ∷ (nine 3 2 2 ++ empty checks refused 21)
    ∷ (empty ++ nine 2 2 0 checks refused 21)
    -- a letter number, with a place past the length, and with a length in the next field
    ∷ (nine 1 2 0 ++ empty checks refused 22)
    ∷ (nine 1 255 255 ++ nine 2 0 0 checks refused 22)
    ∷ (nine 2 0 2 ++ nine 1 0 0 checks refused 22)
    -- a place past the length, with a length and with a letter number in the next field
    ∷ (nine 0 0 255 ++ nine 2 0 0 checks refused 23)
    ∷ (nine 1 0 254 ++ nine 1 2 255 checks refused 23)
    ∷ (empty ++ nine 1 0 0 checks refused 23)
    -- the sheet is read first
    ∷ record { on = left_over_lem; of = []; answer = refused 9 }
    -- no fields: the empty filling, and nothing else
    ∷ record { on = fieldless; of = []; answer = finished (1 ∷ []) }
    ∷ record { on = fieldless; of = 0 ∷ []; answer = refused 20 }
    -- a full field of eight letters, one of limit 0, and two rules: at their limits, and the second one above
    ∷ record { on = ruled; of = (8 ∷ 0 ∷ 0 ∷ 0 ∷ 0 ∷ 0 ∷ 0 ∷ 0 ∷ 0 ∷ []) ++ empty; answer = finished (1 ∷ []) }
    ∷ record { on = ruled; of = (8 ∷ 0 ∷ 0 ∷ 0 ∷ 0 ∷ 0 ∷ 0 ∷ 0 ∷ 255 ∷ []) ++ empty; answer = refused 22 }
    ∷ record { on = ruled; of = (7 ∷ 0 ∷ 0 ∷ 0 ∷ 0 ∷ 0 ∷ 0 ∷ 0 ∷ 255 ∷ []) ++ empty; answer = finished (0 ∷ 2 ∷ 1 ∷ 0 ∷ 0 ∷ 0 ∷ []) }
    ∷ record { on = ruled; of = (7 ∷ 0 ∷ 0 ∷ 0 ∷ 0 ∷ 0 ∷ 0 ∷ 0 ∷ 255 ∷ []) ++ nine 1 0 255; answer = refused 21 }
    ∷ []

pub check_answers : map (λ (c : Check). checking c.on c.of) checked ≡ map (λ (c : Check). c.answer) checked
unfolding starts_with row times sides an_equation a_constraint walk width signed opening read each leading spell weight same_letter same_word equation_holds constraint_holds agreeing judged places a_text texts filling checking
check_answers = refl

pub record Spell : Type 0 where
  pub on : List ℕ
  pub pair : ℕ
  pub side : ℕ
  pub of : List ℕ
  pub room : ℕ
  pub answer : Answer

abbrev pub spells : List ℕ → ℕ → ℕ → List ℕ → ℕ → Answer → Spell
spells b p side m room a = record { on = b; pair = p; side = side; of = m; room = room; answer = a }

abbrev spellings : List Spell
spellings =
    -- XAY and AY with X=BA, Y=B; the second pair's sides
    spells asked 0 0 (nine 2 1 0 ++ nine 1 1 255) 4 (finished (66 ∷ 65 ∷ 65 ∷ 66 ∷ []))
    ∷ spells asked 0 1 (nine 2 1 0 ++ nine 1 1 255) 9 (finished (65 ∷ 66 ∷ []))
    ∷ spells asked 1 0 (nine 2 1 0 ++ nine 1 1 255) 1 (finished (66 ∷ []))
    ∷ spells asked 1 1 (nine 2 1 0 ++ nine 1 1 255) 0 (finished [])
    -- rules play no part
    ∷ spells ruled 0 0 (nine 1 0 255 ++ empty) 3 (finished (65 ∷ []))
    -- each refusal, with the next one
    ∷ spells left_over_lem 2 2 [] 0 (refused 9)
    ∷ spells asked 2 2 [] 0 (refused 24)
    ∷ spells asked 1 2 [] 0 (refused 25)
    ∷ spells asked 0 0 (nine 3 2 0) 0 (refused 20)
    ∷ spells asked 0 0 (nine 3 2 0 ++ empty) 0 (refused 21)
    ∷ spells asked 0 0 (nine 1 2 0 ++ empty) 0 (refused 22)
    ∷ spells asked 0 0 (nine 1 0 0 ++ empty) 0 (refused 23)
    ∷ spells asked 0 0 (nine 2 1 0 ++ nine 1 1 255) 3 (refused 26)
    ∷ []

pub spell_answers : map (λ (c : Spell). spelling c.on c.pair c.side c.of c.room) spellings ≡ map (λ (c : Spell). c.answer) spellings
unfolding starts_with row times sides an_equation a_constraint walk width signed opening read each spell places a_text texts filling spelling_of spelling
spell_answers = refl

-- what is left in a longer buffer
pub later_bytes : written (spelling asked 0 1 (nine 2 1 0 ++ nine 1 1 255) 4) (1 ∷ 2 ∷ 3 ∷ 4 ∷ []) ≡ 65 ∷ 66 ∷ 3 ∷ 4 ∷ []
unfolding starts_with row times sides an_equation a_constraint walk width signed opening read each spell places a_text texts filling spelling_of spelling
later_bytes = refl

-- Counting and writing lines of document 01's sheet P, of whose file document 02's No. 4 says: "For sheet P it is 69".
pub count_answers : map counting (P ∷ (P ++ (0 ∷ [])) ∷ []) ≡ finished (6 ∷ 8 ∷ 69 ∷ []) ∷ refused 9 ∷ []
unfolding starts_with row times sides an_equation a_constraint walk width signed opening read each from any keep total cells terms left_out literals least spread sums place_ids location_ids equation_ids constraint_ids listed ids k_variables s_variables t_variables variables number clause digits decimal problem_line clause_line line file_size counting
count_answers = refl

pub record Line : Type 0 where
  pub on : List ℕ
  pub number : ℕ
  pub room : ℕ
  pub answer : Answer

abbrev pub lines : List Line
lines =
    -- p cnf 6 8, the fourth clause and the last one
    record { on = P; number = 0; room = 10; answer = finished (112 ∷ 32 ∷ 99 ∷ 110 ∷ 102 ∷ 32 ∷ 54 ∷ 32 ∷ 56 ∷ 10 ∷ []) }
    ∷ record { on = P; number = 4; room = 99; answer = finished (45 ∷ 51 ∷ 32 ∷ 45 ∷ 50 ∷ 32 ∷ 53 ∷ 32 ∷ 48 ∷ 10 ∷ []) }
    ∷ record { on = P; number = 8; room = 5; answer = finished (45 ∷ 53 ∷ 32 ∷ 48 ∷ 10 ∷ []) }
    -- each refusal, with the next one
    ∷ record { on = P ++ (0 ∷ []); number = 9; room = 0; answer = refused 9 }
    ∷ record { on = P; number = 9; room = 0; answer = refused 28 }
    ∷ record { on = P; number = 8; room = 4; answer = refused 29 }
    ∷ record { on = P; number = 0; room = 9; answer = refused 29 }
    ∷ []

pub line_answers : map (λ (c : Line). writing c.on c.number c.room) lines ≡ map (λ (c : Line). c.answer) lines
unfolding starts_with row times sides an_equation a_constraint walk width signed opening read each from any keep total cells terms left_out literals least spread sums place_ids location_ids equation_ids constraint_ids listed ids k_variables s_variables t_variables variables number clause digits decimal problem_line clause_line line writing_of writing
line_answers = refl

-- its whole file, of 69 bytes: in a buffer of so many, in a longer one, in one that is a byte too short; and the sheet's refusal, with the buffer's
abbrev file_p : List ℕ
file_p =
    112 ∷ 32 ∷ 99 ∷ 110 ∷ 102 ∷ 32 ∷ 54 ∷ 32 ∷ 56 ∷ 10
    ∷ 49 ∷ 32 ∷ 50 ∷ 32 ∷ 48 ∷ 10
    ∷ 45 ∷ 49 ∷ 32 ∷ 45 ∷ 50 ∷ 32 ∷ 48 ∷ 10
    ∷ 51 ∷ 32 ∷ 48 ∷ 10
    ∷ 45 ∷ 51 ∷ 32 ∷ 45 ∷ 50 ∷ 32 ∷ 53 ∷ 32 ∷ 48 ∷ 10
    ∷ 45 ∷ 51 ∷ 32 ∷ 50 ∷ 32 ∷ 54 ∷ 32 ∷ 48 ∷ 10
    ∷ 45 ∷ 52 ∷ 32 ∷ 45 ∷ 50 ∷ 32 ∷ 54 ∷ 32 ∷ 48 ∷ 10
    ∷ 45 ∷ 52 ∷ 32 ∷ 50 ∷ 32 ∷ 48 ∷ 10
    ∷ 45 ∷ 53 ∷ 32 ∷ 48 ∷ 10
    ∷ []

pub file_answers : filing P 69 ∷ filing P 100 ∷ filing P 68 ∷ filing P 0 ∷ filing (P ++ (0 ∷ [])) 68 ∷ [] ≡ finished file_p ∷ finished file_p ∷ refused 29 ∷ refused 29 ∷ refused 9 ∷ []
unfolding starts_with row times sides an_equation a_constraint walk width signed opening read each from any keep total cells terms left_out literals least spread sums place_ids location_ids equation_ids constraint_ids listed ids k_variables s_variables t_variables variables number clause digits decimal problem_line clause_line line file filing_of filing
file_answers = refl

-- Searching: 1 for a clash, and the first filling that clashes; 0 for apart.
pub record Search : Type 0 where
  pub on : List ℕ
  pub room : ℕ
  pub answer : Answer

abbrev searches : List Search
searches =
    record { on = P; room = 9; answer = finished (1 ∷ nine 1 0 255) }
    -- only empty texts clash
    ∷ record { on = asked; room = 18; answer = finished (1 ∷ (empty ++ empty)) }
    -- only a full field and an empty one, and a longer buffer
    ∷ record { on = ruled; room = 54; answer = finished (1 ∷ ((8 ∷ 0 ∷ 0 ∷ 0 ∷ 0 ∷ 0 ∷ 0 ∷ 0 ∷ 0 ∷ []) ++ empty)) }
    -- BA against YX, with three clashes: X empty and Y=BA before X=A and Y=B, and before X=BA and Y empty
    ∷ record { on = several; room = 18; answer = finished (1 ∷ (empty ++ nine 2 1 0)) }
    -- no fields: a buffer of none
    ∷ record { on = fieldless; room = 0; answer = finished (1 ∷ []) }
    -- P with limit 0
    ∷ record { on = sheet 1 1 1 0 (65 ∷ 0 ∷ 1 ∷ 1 ∷ 128 ∷ 0 ∷ []); room = 9; answer = finished (0 ∷ []) }
    -- the buffer, with a clash and apart; the sheet's refusal, with the buffer's
    ∷ record { on = P; room = 8; answer = refused 27 }
    ∷ record { on = asked; room = 17; answer = refused 27 }
    ∷ record { on = sheet 1 1 1 0 (65 ∷ 0 ∷ 1 ∷ 1 ∷ 128 ∷ 0 ∷ []); room = 8; answer = refused 27 }
    ∷ record { on = left_over_lem; room = 17; answer = refused 9 }
    ∷ []

pub search_answers : map (λ (c : Search). searching c.on c.room) searches ≡ map (λ (c : Search). c.answer) searches
unfolding starts_with row times sides an_equation a_constraint walk width signed opening read each from all any same spell weight same_letter same_word equation_holds constraint_holds keeps solves all_texts substitutions solvable keep total_length field_letters ranks lex earliest first_solution encode_filling searching_of searching
search_answers = refl

-- What the search program prints, for document 01's sheet P "`clash`, `field 0=A`, `pair 0=A`"; with limit 0, and with a byte left over.
pub search_prints : map search_printed (P ∷ sheet 1 1 1 0 (65 ∷ 0 ∷ 1 ∷ 1 ∷ 128 ∷ 0 ∷ []) ∷ (P ++ (0 ∷ [])) ∷ []) ≡
    ((99 ∷ 108 ∷ 97 ∷ 115 ∷ 104 ∷ 10 ∷ []) ++ ((102 ∷ 105 ∷ 101 ∷ 108 ∷ 100 ∷ 32 ∷ 48 ∷ 61 ∷ 65 ∷ 10 ∷ []) ++ (112 ∷ 97 ∷ 105 ∷ 114 ∷ 32 ∷ 48 ∷ 61 ∷ 65 ∷ 10 ∷ [])))
    ∷ (97 ∷ 112 ∷ 97 ∷ 114 ∷ 116 ∷ 10 ∷ [])
    ∷ (114 ∷ 101 ∷ 102 ∷ 117 ∷ 115 ∷ 101 ∷ 100 ∷ 32 ∷ 57 ∷ 10 ∷ [])
    ∷ []
unfolding starts_with row times sides an_equation a_constraint walk width signed opening read each from all any same spell weight same_letter same_word equation_holds constraint_holds keeps solves all_texts substitutions solvable keep total_length field_letters ranks lex earliest first_solution digits decimal refused_line report search_printed
search_prints = refl

-- A book's list: the number of pairs, and their bytes.
pub record Compare : Type 0 where
  pub on : List ℕ
  pub room : ℕ
  pub answer : Answer

abbrev ◌with◌gives◌ : List ℕ → ℕ → Answer → Compare
◌with◌gives◌ b n a = record { on = b; room = n; answer = a }

infix 5 ◌with◌gives◌
abbrev compares : List Compare
compares =
    -- of three templates the first two clash: two bytes, in a buffer that is longer, just long enough, and one byte too short
    (three_bytes with 240 gives finished (1 ∷ 0 ∷ 1 ∷ []))
    ∷ (three_bytes with 2 gives finished (1 ∷ 0 ∷ 1 ∷ []))
    ∷ (three_bytes with 1 gives refused 42)
    -- the same damaged, with no buffer at all: 41 and 40 come before 42, and 40 before 41
    ∷ (three_bytes ++ (0 ∷ []) with 0 gives refused 41)
    ∷ (mark ++ (0 ∷ 2 ∷ 2 ∷ 65 ∷ 66 ∷ []) with 0 gives refused 40)
    -- three templates, all empty: each two of them, by the first and then by the second
    ∷ (book (1 ∷ 65 ∷ 3 ∷ 0 ∷ 0 ∷ 0 ∷ 0 ∷ 0 ∷ 0 ∷ []) with 6 gives finished (3 ∷ 0 ∷ 1 ∷ 0 ∷ 2 ∷ 1 ∷ 2 ∷ []))
    ∷ (book (1 ∷ 65 ∷ 3 ∷ 0 ∷ 0 ∷ 0 ∷ 0 ∷ 0 ∷ 0 ∷ []) with 5 gives refused 42)
    -- one template alone: an empty list fits an empty buffer
    ∷ (book (1 ∷ 65 ∷ 1 ∷ 0 ∷ 0 ∷ []) with 0 gives finished (0 ∷ []))
    -- A and AA: none
    ∷ (book (1 ∷ 65 ∷ 2 ∷ 0 ∷ 1 ∷ 0 ∷ 0 ∷ 2 ∷ 0 ∷ 0 ∷ []) with 0 gives finished (0 ∷ []))
    ∷ []

pub compare_answers : map (λ (c : Compare). comparing c.on c.room) compares ≡ map (λ (c : Compare). c.answer) compares
unfolding starts_with row times width count some_symbols a_template some_templates body opens read_book each from all any same spell weight same_letter same_word equation_holds constraint_holds keeps solves all_texts substitutions solvable keep question.asked pairs clashing list_bytes listing comparing
compare_answers = refl

-- A book's list with hours. The book has three empty templates, which all clash with each other.
abbrev three_empty : List ℕ
three_empty = book (1 ∷ 65 ∷ 3 ∷ 0 ∷ 0 ∷ 0 ∷ 0 ∷ 0 ∷ 0 ∷ [])

pub record Scheduled : Type 0 where
  pub of_book : List ℕ
  pub of_hours : List ℕ
  pub room : ℕ
  pub answer : Answer

abbrev scheduled : List ℕ → List ℕ → ℕ → Answer → Scheduled
scheduled b h room a = record { of_book = b; of_hours = h; room = room; answer = a }

abbrev schedules : List Scheduled
schedules =
    -- the first hour, the next one, and the last minute of the one with the first of the other; just room enough, though all that clash would not fit; a byte less
    (scheduled three_empty (hours (1 ∷ 0 ∷ 0 ∷ 0 ∷ 60 ∷ 1 ∷ 0 ∷ 60 ∷ 0 ∷ 120 ∷ 1 ∷ 0 ∷ 59 ∷ 0 ∷ 61 ∷ [])) 4 (finished (2 ∷ 0 ∷ 2 ∷ 1 ∷ 2 ∷ [])))
    ∷ (scheduled three_empty (hours (1 ∷ 0 ∷ 0 ∷ 0 ∷ 60 ∷ 1 ∷ 0 ∷ 60 ∷ 0 ∷ 120 ∷ 1 ∷ 0 ∷ 59 ∷ 0 ∷ 61 ∷ [])) 3 (refused 42))
    -- a template without windows; none with any
    ∷ (scheduled three_empty (hours (0 ∷ 1 ∷ 0 ∷ 0 ∷ 39 ∷ 96 ∷ 1 ∷ 39 ∷ 95 ∷ 39 ∷ 96 ∷ [])) 2 (finished (1 ∷ 1 ∷ 2 ∷ [])))
    ∷ (scheduled three_empty (hours (0 ∷ 0 ∷ 0 ∷ [])) 0 (finished (0 ∷ [])))
    -- the book's faults before those of the hours, which are empty; 43, 44 and 45 before 42, with no room at all
    ∷ (scheduled [] [] 0 (refused 40))
    ∷ (scheduled (book []) [] 0 (refused 41))
    ∷ (scheduled three_empty [] 0 (refused 43))
    ∷ (scheduled three_empty (hours (0 ∷ 0 ∷ [])) 0 (refused 43))
    ∷ (scheduled three_empty (hours (0 ∷ 0 ∷ 0 ∷ 0 ∷ [])) 0 (refused 43))
    ∷ (scheduled three_empty (hours (1 ∷ 0 ∷ 9 ∷ 0 ∷ 9 ∷ 0 ∷ 0 ∷ [])) 0 (refused 44))
    ∷ (scheduled three_empty (hours (2 ∷ 0 ∷ 0 ∷ 0 ∷ 9 ∷ 0 ∷ 8 ∷ 0 ∷ 20 ∷ 0 ∷ 0 ∷ [])) 0 (refused 45))
    -- all at once: 43 first, then of one window 44
    ∷ (scheduled three_empty (hours (2 ∷ 0 ∷ 0 ∷ 0 ∷ 9 ∷ 0 ∷ 8 ∷ 0 ∷ 8 ∷ 0 ∷ 5 ∷ [])) 0 (refused 43))
    ∷ (scheduled three_empty (hours (2 ∷ 0 ∷ 0 ∷ 0 ∷ 9 ∷ 0 ∷ 8 ∷ 0 ∷ 8 ∷ 0 ∷ 0 ∷ [])) 0 (refused 44))
    ∷ []

pub schedule_answers : map (λ (c : Scheduled). comparing_hours c.of_book c.of_hours c.room) schedules ≡ map (λ (c : Scheduled). c.answer) schedules
unfolding starts_with row times width count some_symbols a_template some_templates body opens read_book minute an_interval some_intervals tested all_tested read_hours sent share sharing each from all any same spell weight same_letter same_word equation_holds constraint_holds keeps solves all_texts substitutions solvable keep question.asked pairs clashing list_bytes listing comparing_hours
schedule_answers = refl
