-- The rules of each call as one list in document 01's order (a book's in document 02's), a rule being the number of its refusal and whether it is kept (a sheet's own
-- rules, over lengths, are constraints here). Nothing is walked here: a byte is found by its offset. So "the first refusal number that
-- applies, in the order given there" is said apart from the way in which a call finds it; `Demands.antt`, of a book `BookOfTemplates.antt`, with hours `ShopHours.antt`, and of the whole file `FileSize.antt` show that each call gives it.
use Rattle.std.specs.Prelude.{◌≡◌, Bool, true, false, ◌&&◌, List, [], ◌∷◌, ◌++◌, map, ℕ, zero, suc, ◌+◌, ◌*◌, leb, ltb, eqb, length, take, drop}
use Rattle.model.specs.Lists.{All, all, between, starts_with}
use Rattle.model.specs.Sheet.{Sheet, Symbol, symbol_of, width, sixteen, Role, letter_byte, limit_byte, count_byte, template_byte, coefficient_byte, most_byte, passes, refusal_of, Counts, mark, byte, counts_at, sheet_of}
use Rattle.model.specs.Word.{solves}
use Rattle.model.specs.Filling.{filling, substitution_in}
use Rattle.book.specs.Book as book
use Rattle.book.specs.Book.{book_of}
use Rattle.book.specs.Pairs.{Pair, clashing, list_bytes}
use Rattle.schedule.specs.Schedule as schedule
use Rattle.schedule.specs.Schedule.{schedule_of}
use Rattle.schedule.specs.Shared.{sharing}
use Rattle.schedule.specs.Offsets.{minute_at}
use Rattle.formula.specs.Clause.{ids}
use Rattle.formula.specs.Numbering.{variables}
use Rattle.formula.specs.Dimacs.{line, file_size}
use Rattle.formula.specs.Assignment.{spelled}
use Rattle.calls.specs.Reply.{lines, line_ended, known, one_status, given, closed, in_count, given_once, assigned, all_single, none_after_blank}
use Rattle.calls.specs.Calls.{spelled_text, in_size}

-- A rule, written `number asks kept`.
pub record Rule : Type 0 where
  pub number : ℕ
  pub kept : Bool

infix 5 ◌asks◌
abbrev pub ◌asks◌ : ℕ → Bool → Rule
◌asks◌ n ok = record { number = n; kept = ok }

-- "If none applies": every rule is kept.
abbrev pub Kept : List Rule → Type 0
Kept rules = All (λ r. r.kept ≡ true) rules

-- "the first refusal number that applies": that of a rule that is broken, those before it being kept
pub record First (n : ℕ) (rules : List Rule) : Type 0 where
  pub earlier : List Rule
  pub broken : Rule
  pub later : List Rule
  pub are : rules ≡ earlier ++ (broken ∷ later)
  pub earlier_kept : Kept earlier
  pub not_kept : broken.kept ≡ false
  pub is_number : broken.number ≡ n

-- A sheet's rules, of its bytes b.

-- n bytes of one role from offset k on, the byte before them given: "8 the next byte needed is missing", and then its role's own.
unfoldable pub row_rules : List ℕ → Role → ℕ → ℕ → ℕ → List Rule
row_rules b role before k zero = []
row_rules b role before k (suc n) =
    (8 asks ltb k (length b)) ∷ (refusal_of role asks passes role before (byte b k)) ∷ row_rules b role (byte b k) (suc k) n

-- n of a kind, of which one takes so many bytes from offset k on; and the offset past them
unfoldable pub several_rules : ℕ → (ℕ → List Rule) → (ℕ → ℕ) → ℕ → List Rule
several_rules zero one taken k = []
several_rules (suc n) one taken k = one k ++ several_rules n one taken (k + taken k)

unfoldable pub past : ℕ → (ℕ → ℕ) → ℕ → ℕ
past zero taken k = k
past (suc n) taken k = past n taken (k + taken k)

-- An equation: "left symbol count, right symbol count .., left symbols, right symbols". "14 width (tested after a pair's symbols, left then
-- right)".
abbrev pub symbols_at : List ℕ → ℕ → ℕ → List Symbol
symbols_at b k n = map symbol_of (take n (drop k b))

unfoldable pub sides_rules : List ℕ → ℕ → List ℕ → ℕ → ℕ → ℕ → List Rule
sides_rules b l limits m n k =
    row_rules b (template_byte l (length limits)) 0 k m
    ++ (row_rules b (template_byte l (length limits)) 0 (k + m) n
    ++ ((14 asks leb (width limits (symbols_at b k m)) 24) ∷ (14 asks leb (width limits (symbols_at b (k + m) n)) 24) ∷ []))

abbrev pub equation_rules : List ℕ → ℕ → List ℕ → ℕ → List Rule
equation_rules b l limits k = row_rules b count_byte 0 k 2 ++ sides_rules b l limits (byte b k) (byte b (suc k)) (k + 2)

abbrev pub equation_bytes : List ℕ → ℕ → ℕ
equation_bytes b k = 2 + (byte b k + byte b (suc k))

-- A constraint: "V coefficients .., then a limit, signed 16 bits"
abbrev pub constraint_rules : List ℕ → ℕ → ℕ → List Rule
constraint_rules b v k = row_rules b coefficient_byte 0 k v ++ row_rules b most_byte 0 (k + v) 2

-- "The walk then goes through the bytes in order": letters, limits, equations, constraints; and where the constraints start and end.
abbrev pub constraints_at : List ℕ → Counts → ℕ
constraints_at b c = past c.equation_count (equation_bytes b) (9 + c.letter_count + c.field_count)

abbrev pub end_at : List ℕ → Counts → ℕ
end_at b c = past c.constraint_count (λ k. c.field_count + 2) (constraints_at b c)

unfoldable pub walk_rules : List ℕ → Counts → List Rule
walk_rules b c =
    row_rules b letter_byte 0 9 c.letter_count
    ++ (row_rules b limit_byte 0 (9 + c.letter_count) c.field_count
    ++ (several_rules c.equation_count (equation_rules b c.letter_count (take c.field_count (drop (9 + c.letter_count) b))) (equation_bytes b) (9 + c.letter_count + c.field_count)
    ++ several_rules c.constraint_count (constraint_rules b c.field_count) (λ k. c.field_count + 2) (constraints_at b c)))

-- "Reading: 1 under 9 bytes; 2 mark; 3 version; 4 L; 5 V; 6 E; 7 R. The walk then .. . 9 comes last: bytes left over."
abbrev pub opening_rules : List ℕ → List Rule
opening_rules b =
    (1 asks leb 9 (length b))
    ∷ (2 asks starts_with mark b)
    ∷ (3 asks eqb (sixteen (byte b 3) (byte b 4)) 1)
    ∷ (4 asks between 1 8 (byte b 5))
    ∷ (5 asks between 0 6 (byte b 6))
    ∷ (6 asks between 1 4 (byte b 7))
    ∷ (7 asks between 0 4 (byte b 8))
    ∷ []

unfoldable pub sheet_rules : List ℕ → List Rule
sheet_rules b = opening_rules b ++ (walk_rules b (counts_at b) ++ ((9 asks leb (length b) (end_at b (counts_at b))) ∷ []))

-- A filling's rules, of its bytes m.

-- so many places from offset k on, the first n of them letters: "22 letter number not below L, 23 a place past the length that is not 255"
unfoldable pub place_rules : List ℕ → ℕ → ℕ → ℕ → ℕ → List Rule
place_rules m l n k zero = []
place_rules m l zero k (suc places) = (23 asks eqb (byte m k) 255) ∷ place_rules m l zero (suc k) places
place_rules m l (suc n) k (suc places) = (22 asks ltb (byte m k) l) ∷ place_rules m l n (suc k) places

-- "by field, in byte order, 21 length above the limit", and its eight places
unfoldable pub text_rules : List ℕ → ℕ → List ℕ → ℕ → List Rule
text_rules m l [] k = []
text_rules m l (limit ∷ limits) k = (21 asks leb (byte m k) limit) ∷ (place_rules m l (byte m k) (suc k) 8 ++ text_rules m l limits (k + 9))

-- "20 not 9 × V bytes; then by field"
unfoldable pub filling_rules : Sheet → List ℕ → List Rule
filling_rules s m = (20 asks eqb (length m) (9 * length s.limits)) ∷ text_rules m (length s.letters) s.limits 0

-- The calls' rules. "Every operation reads the sheet first and gives its refusals before its own."
abbrev pub after_sheet : List ℕ → (Sheet → List Rule) → List Rule
after_sheet b own = sheet_rules b ++ own (sheet_of b)

-- "Spelling: 24 pair number not below E; 25 side not 0 (left) or 1 (right); 20 to 23; 26 buffer shorter than the text."
unfoldable pub spelling_rules : ℕ → ℕ → List ℕ → ℕ → Sheet → List Rule
spelling_rules p side m room s =
    (24 asks ltb p (length s.equations))
    ∷ (25 asks leb side 1)
    ∷ (filling_rules s m ++ ((26 asks leb (length (spelled_text s p side (substitution_in (filling s m)))) room) ∷ []))

-- "27 buffer shorter than 9 × V", of searching and of reading a reply
abbrev pub room_rule : ℕ → Sheet → Rule
room_rule room s = 27 asks leb (9 * length s.limits) room

-- "Writing line n: 28 n above C; 29 buffer shorter than the line."
unfoldable pub writing_rules : ℕ → ℕ → Sheet → List Rule
writing_rules n room s = (28 asks leb n (length (ids s))) ∷ (29 asks leb (length (line s n)) room) ∷ []

-- Writing the whole file: 29 where the buffer is shorter than all its lines together.
abbrev pub filing_rule : ℕ → Sheet → Rule
filing_rule room s = 29 asks leb (file_size s) room

-- "Reading a reply: 27; 30 over 65,536 bytes; then each test over the whole text in number order."
unfoldable pub replying_rules : List ℕ → ℕ → Sheet → List Rule
replying_rules t room s =
    room_rule room s
    ∷ (30 asks in_size t)
    ∷ (31 asks line_ended t)
    ∷ (32 asks all known (lines t))
    ∷ (33 asks one_status (lines t))
    ∷ (34 asks closed (given t))
    ∷ (35 asks in_count (length (variables s)) (given t))
    ∷ (36 asks given_once (given t))
    ∷ (37 asks all_single s (assigned t))
    ∷ (38 asks none_after_blank s (assigned t))
    ∷ (39 asks solves s (spelled s (assigned t)))
    ∷ []

-- A book's rules (document 02, No. 3), of its bytes b. One byte from the one number to the other at offset k.
abbrev pub count_rules : List ℕ → ℕ → ℕ → ℕ → List Rule
count_rules b low high k = (41 asks ltb k (length b)) ∷ (41 asks between low high (byte b k)) ∷ []

-- "a symbol count and symbols" and their width, of a template with these limits, from offset k on
unfoldable pub symbols_rules : List ℕ → ℕ → List ℕ → ℕ → List Rule
symbols_rules b l limits k =
    count_rules b 0 12 k
    ++ (row_rules b (template_byte l (length limits)) 0 (k + 1) (byte b k)
    ++ ((41 asks leb (width limits (symbols_at b (k + 1) (byte b k))) 24) ∷ []))

-- "Each template has a field count of 0 to 3, limits, a symbol count and symbols."
abbrev pub template_rules : List ℕ → ℕ → ℕ → List Rule
template_rules b l k =
    count_rules b 0 3 k
    ++ (row_rules b limit_byte 0 (k + 1) (byte b k) ++ symbols_rules b l (take (byte b k) (drop (k + 1) b)) (k + 1 + byte b k))

abbrev pub template_bytes : List ℕ → ℕ → ℕ
template_bytes b k = 1 + byte b k + 1 + byte b (k + 1 + byte b k)

-- "L and its letters, a template count of 1 to 16, then the templates"; and where they end
abbrev pub templates_at : List ℕ → ℕ
templates_at b = 6 + byte b 5

abbrev pub book_end : List ℕ → ℕ
book_end b = past (byte b (templates_at b)) (template_bytes b) (templates_at b + 1)

unfoldable pub body_rules : List ℕ → List Rule
body_rules b =
    count_rules b 1 8 5
    ++ (row_rules b letter_byte 0 6 (byte b 5)
    ++ (count_rules b 1 16 (templates_at b)
    ++ several_rules (byte b (templates_at b)) (template_rules b (byte b 5)) (template_bytes b) (templates_at b + 1)))

-- "40 when the book is under five bytes or mark or version is wrong. 41 when a count, letter, limit, symbol or width breaks a range given here or a
-- sheet's rule for it, or bytes are missing or left over.": whatever number a sheet's rule has, a book's is 41
abbrev pub as_book : Rule → Rule
as_book r = 41 asks r.kept

-- a mark and "version 1 in 16 bits", with the number of their refusal
abbrev pub mark_rules : ℕ → List ℕ → List ℕ → List Rule
mark_rules n mark b = (n asks leb 5 (length b)) ∷ (n asks starts_with mark b) ∷ (n asks eqb (sixteen (byte b 3) (byte b 4)) 1) ∷ []

unfoldable pub book_rules : List ℕ → List Rule
book_rules b = mark_rules 40 book.mark b ++ (map as_book (body_rules b) ++ ((41 asks leb (length b) (book_end b)) ∷ []))

-- "42 when the list's buffer is shorter than the list; they are tested in this order"
abbrev pub list_rule : List Pair → ℕ → Rule
list_rule ps room = 42 asks leb (length (list_bytes ps)) room

unfoldable pub comparing_rules : List ℕ → ℕ → List Rule
comparing_rules b room = book_rules b ++ (list_rule (clashing (book_of b)) room ∷ [])

-- The rules of an hours file (document 02, No. 6), of its bytes h, for n templates. The template's count at offset k, and its windows' bytes: "43 when .. a count
-- is above 4, or bytes are missing".
abbrev pub own_bytes : List ℕ → ℕ → ℕ
own_bytes h k = 1 + 4 * byte h k

abbrev pub own_rules : List ℕ → ℕ → List Rule
own_rules h k = (43 asks ltb k (length h)) ∷ (43 asks leb (byte h k) 4) ∷ (43 asks leb (k + own_bytes h k) (length h)) ∷ []

-- so many windows from offset k on, the end of the preceding one given: "44 when a start is not below its end or an end is above 10,080. 45 when a window starts
-- before the preceding one of its template ends."
unfoldable pub interval_rules : List ℕ → ℕ → ℕ → ℕ → List Rule
interval_rules h before k zero = []
interval_rules h before k (suc n) =
    (44 asks (ltb (minute_at h k) (minute_at h (k + 2)) && leb (minute_at h (k + 2)) 10080))
    ∷ (45 asks leb before (minute_at h k))
    ∷ interval_rules h (minute_at h (k + 2)) (k + 4) n

-- "43 when mark or version is wrong, a count is above 4, or bytes are missing or left over for the book's templates.", and "then 44 and 45 window by window"
unfoldable pub hours_rules : ℕ → List ℕ → List Rule
hours_rules n h =
    mark_rules 43 schedule.mark h
    ++ (several_rules n (own_rules h) (own_bytes h) 5
    ++ ((43 asks leb (length h) (past n (own_bytes h) 5)) ∷ several_rules n (λ k. interval_rules h 0 (k + 1) (byte h k)) (own_bytes h) 5))

-- "43 comes after 41, then 44 and 45 window by window, then 42."
unfoldable pub comparing_hours_rules : List ℕ → List ℕ → ℕ → List Rule
comparing_hours_rules b h room =
    book_rules b
    ++ (hours_rules (length (book_of b).templates) h
    ++ (list_rule (sharing (book_of b) (schedule_of (length (book_of b).templates) h)) room ∷ []))
