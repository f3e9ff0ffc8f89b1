-- The answer of every public call on all inputs, refused ones too.
use Rattle.std.specs.Prelude.{◌≡◌, Bool, List, [], ◌∷◌, ◌++◌, ℕ, ◌*◌, leb, ltb, length, take, drop}
use Rattle.model.specs.Lists.{pick, all}
use Rattle.model.specs.Sheet as sheet
use Rattle.model.specs.Sheet.{Sheet, Step, got, fault, Counts, counts_of, Reading, read, template}
use Rattle.model.specs.Word.{Substitution, letter_bytes, spell, solves}
use Rattle.model.specs.Mismatch.{Judgement, solution, differs, breaks, judged}
use Rattle.model.specs.Solvable.{solvable}
use Rattle.model.specs.Order.{first_solution}
use Rattle.model.specs.Filling.{filling, encode_filling}
use Rattle.book.specs.Book as book
use Rattle.book.specs.Book.{Book, read_book}
use Rattle.book.specs.Pairs.{Pair, clashing, list_bytes}
use Rattle.schedule.specs.Schedule as schedule
use Rattle.schedule.specs.Schedule.{Schedule, read_hours}
use Rattle.schedule.specs.Shared.{sharing}
use Rattle.formula.specs.Clause.{ids}
use Rattle.formula.specs.Numbering.{variables}
use Rattle.formula.specs.Dimacs.{line, file, file_size}
use Rattle.formula.specs.Assignment.{Assignment, spelled}
use Rattle.calls.specs.Reply.{lines, line_ended, known, one_status, given, closed, in_count, given_once, assigned, all_single, none_after_blank}

-- "A refusal returns its number only"; a call that finishes answers its values.
pub data Answer : Type 0 where
  refused : ℕ → Answer
  finished : List ℕ → Answer

-- "Every operation reads the sheet first and gives its refusals before its own."
abbrev pub of_sheet : Reading → (Sheet → Answer) → Answer
of_sheet (sheet.accepted s) go = go s
of_sheet (sheet.refused n) go = refused n

-- a test of the call's own, and the refusal where it fails
abbrev pub require : Bool → ℕ → Answer → Answer
require ok n go = pick ok go (refused n)

-- the refusals of a filling, 20 to 23
abbrev pub of_filling : Step Substitution → (Substitution → Answer) → Answer
of_filling (got g xs) go = go g
of_filling (fault n) go = refused n

-- Reading: "The answer is the four counts."
abbrev pub four_counts : Counts → List ℕ
four_counts c = c.letter_count ∷ c.field_count ∷ c.equation_count ∷ c.constraint_count ∷ []

abbrev pub reading_of : Reading → Answer
reading_of r = of_sheet r (λ s. finished (four_counts (counts_of s)))

unfoldable pub reading : List ℕ → Answer
reading b = reading_of (read b)

-- Checking a filling: "The answer is clash or no clash", 1 or 0. After 0 come five numbers more, the cause (document 02, No. 5): 1, "for the first pair that
-- differs, the pair's number, the count of agreeing letters, and the side and length of the rest"; "or else" 2 and "the number of the first rule broken".
abbrev pub judgement_values : Judgement → List ℕ
judgement_values solution = 1 ∷ []
judgement_values (differs p agree side rest) = 0 ∷ 1 ∷ p ∷ agree ∷ side ∷ rest ∷ []
judgement_values (breaks r) = 0 ∷ 2 ∷ r ∷ 0 ∷ 0 ∷ 0 ∷ []

unfoldable pub checking : List ℕ → List ℕ → Answer
checking b m = of_sheet (read b) (λ s. of_filling (filling s m) (λ g. finished (judgement_values (judged s g))))

-- clash or not, as a number
abbrev pub verdict : Bool → Answer
verdict clash = finished (pick clash 1 0 ∷ [])

-- Spelling: "24 pair number not below E; 25 side not 0 (left) or 1 (right); 20 to 23; 26 buffer shorter than the text." The values are
-- the text's bytes.
abbrev pub spelled_text : Sheet → ℕ → ℕ → Substitution → List ℕ
spelled_text s p side g = letter_bytes s (spell g (template s p side))

unfoldable pub spelling_of : Sheet → ℕ → ℕ → List ℕ → ℕ → Answer
spelling_of s p side m room =
    of_filling (filling s m) (λ g.
    require (leb (length (spelled_text s p side g)) room) 26
    (finished (spelled_text s p side g)))

unfoldable pub spelling : List ℕ → ℕ → ℕ → List ℕ → ℕ → Answer
spelling b p side m room =
    of_sheet (read b) (λ s.
    require (ltb p (length s.equations)) 24
    (require (leb side 1) 25
    (spelling_of s p side m room)))

-- A call that writes its values: "the answer is its length", and in the lent buffer "later bytes are unchanged". Refused, "no lent byte
-- changes". `Writes` says both of an answer and of a buffer before and after.
abbrev pub sized : Answer → Answer
sized (refused n) = refused n
sized (finished values) = finished (length values ∷ [])

abbrev pub written : Answer → List ℕ → List ℕ
written (refused n) buffer = buffer
written (finished values) buffer = values ++ drop (length values) buffer

abbrev pub Writes : Answer → List ℕ → Answer → List ℕ → Type 0
Writes a before answer after = (answer ≡ sized a) × (after ≡ written a before)

-- Searching: "27 buffer shorter than 9 × V." The values are 1, for clash, and then the bytes of the first solution (document 02, No. 1: "The search is
-- to give the first clash."); or 0, for apart.
abbrev pub search_values : Sheet → List ℕ
search_values s = pick (solvable s) (1 ∷ encode_filling (first_solution s)) (0 ∷ [])

unfoldable pub searching_of : Sheet → ℕ → Answer
searching_of s room = require (leb (9 * length s.limits) room) 27 (finished (search_values s))

unfoldable pub searching : List ℕ → ℕ → Answer
searching b room = of_sheet (read b) (λ s. searching_of s room)

-- A call that answers the first of its values and hands the others over: "A clash fills the first 9 × V bytes and no more; apart changes none." Refused, "no
-- lent byte changes". A book's list (below) is another, and so is checking, whose cause goes to a lent array. `Decides` says both of an answer and of a
-- buffer before and after. The first of the values; and those that follow it.
abbrev pub decision : Answer → Answer
decision (refused n) = refused n
decision (finished values) = finished (take 1 values)

abbrev pub following : Answer → Answer
following (refused n) = refused n
following (finished values) = finished (drop 1 values)

abbrev pub Decides : Answer → List ℕ → Answer → List ℕ → Type 0
Decides a before answer after = (answer ≡ decision a) × (after ≡ written (following a) before)

-- Counting: "no refusal of its own. The answer is the variable count, the clause count C," and the file's size (document 02, No. 4: "The size is now to be
-- exactly the sum of all line lengths").
abbrev pub clause_counts : Sheet → List ℕ
clause_counts s = length (variables s) ∷ length (ids s) ∷ file_size s ∷ []

unfoldable pub counting : List ℕ → Answer
counting b = of_sheet (read b) (λ s. finished (clause_counts s))

-- Writing line n: "28 n above C; 29 buffer shorter than the line. The answer is the line's length; later bytes are unchanged."
unfoldable pub writing_of : Sheet → ℕ → ℕ → Answer
writing_of s n room =
    require (leb n (length (ids s))) 28
    (require (leb (length (line s n)) room) 29
    (finished (line s n)))

unfoldable pub writing : List ℕ → ℕ → ℕ → Answer
writing b n room = of_sheet (read b) (λ s. writing_of s n room)

-- Writing the whole file, lines 0 to C one after the other, which neither paper asks for: no line's number is given, so that there is no 28; 29 where the
-- buffer is shorter than the file. "The answer is the .. length; later bytes are unchanged", as of a line.
unfoldable pub filing_of : Sheet → ℕ → Answer
filing_of s room = require (leb (length (file s)) room) 29 (finished (file s))

unfoldable pub filing : List ℕ → ℕ → Answer
filing b room = of_sheet (read b) (λ s. filing_of s room)

-- Reading a reply: "27; 30 ..; then each test over the whole text in number order." 31 to 36 are of the text and the number
-- of variables, 37 to 39 of the assignment that it lists.
unfoldable pub formed : ℕ → List ℕ → Answer → Answer
formed count t go =
    require (line_ended t) 31
    (require (all known (lines t)) 32
    (require (one_status (lines t)) 33
    (require (closed (given t)) 34
    (require (in_count count (given t)) 35
    (require (given_once (given t)) 36
    go)))))

-- "39 the filling does not clash"; the values are the filling's bytes.
unfoldable pub decoding : Sheet → Assignment → Answer
decoding s w =
    require (all_single s w) 37
    (require (none_after_blank s w) 38
    (require (solves s (spelled s w)) 39
    (finished (encode_filling (spelled s w)))))

-- "30 over 65,536 bytes"
abbrev pub in_size : List ℕ → Bool
in_size t = leb (length t) 65536

unfoldable pub replying_of : Sheet → List ℕ → ℕ → Answer
replying_of s t room =
    require (leb (9 * length s.limits) room) 27
    (require (in_size t) 30
    (formed (length (variables s)) t
    (decoding s (assigned t))))

unfoldable pub replying : List ℕ → List ℕ → ℕ → Answer
replying b t room = of_sheet (read b) (λ s. replying_of s t room)

-- A call that hands its values over and answers no number: "Accepted, the filling fills the first 9 × V bytes and no more."
abbrev pub unnumbered : Answer → Answer
unnumbered (refused n) = refused n
unnumbered (finished values) = finished []

abbrev pub HandsOver : Answer → List ℕ → Answer → List ℕ → Type 0
HandsOver a before answer after = (answer ≡ unnumbered a) × (after ≡ written a before)

-- A book's list (document 02, No. 3), "40 .. 41 .. 42 when the list's buffer is shorter than the list; they are tested in this order". The values are the
-- number of listed pairs, and then the list's bytes; the call answers the first and hands over the others, as `Decides` says.
abbrev pub of_book : book.Reading → (Book → Answer) → Answer
of_book (book.accepted k) go = go k
of_book (book.refused n) go = refused n

abbrev pub list_values : List Pair → List ℕ
list_values ps = length ps ∷ list_bytes ps

unfoldable pub listing : List Pair → ℕ → Answer
listing ps room = require (leb (length (list_bytes ps)) room) 42 (finished (list_values ps))

unfoldable pub comparing : List ℕ → ℕ → Answer
comparing b room = of_book (read_book b) (λ k. listing (clashing k) room)

-- A book's list with hours (document 02, No. 6): "43 comes after 41, then 44 and 45 window by window, then 42."
abbrev pub of_hours : schedule.Reading → (Schedule → Answer) → Answer
of_hours (schedule.accepted s) go = go s
of_hours (schedule.refused n) go = refused n

unfoldable pub comparing_hours : List ℕ → List ℕ → ℕ → Answer
comparing_hours b h room = of_book (read_book b) (λ k. of_hours (read_hours (length k.templates) h) (λ s. listing (sharing k s) room))
