-- A book of templates (document 02, No. 3): what it says, and the bytes that say it. `read_book` gives the book of a list of bytes or the refusal,
-- `encode_book` the bytes of a book, and `BookIn` the ranges, stated of what a book says. Quotes are of document 02, and where a sheet's rule is meant of
-- document 01.
use Rattle.std.specs.Prelude.{◌≡◌, Bool, ◌&&◌, List, [], ◌∷◌, ◌++◌, map, ℕ, ◌≤◌, leb, eqb, length, get_or, drop}
use Rattle.model.specs.Lists.{pick, between, starts_with, each, All}
use Rattle.model.specs.Sheet.{Symbol, width, sixteen, symbol_of, symbol_byte, Step, got, fault, ◌then◌, must, letter_byte, limit_byte, template_byte, row, times, byte, bytes_of}
use Rattle.model.specs.Range.{Rising, TemplateIn}

-- What a book says.

-- "Each template has a field count of 0 to 3, limits, a symbol count and symbols. Fields belong to their own template."
pub record Template : Type 0 where
  pub limits : List ℕ
  pub symbols : List Symbol

-- "L and its letters, .. then the templates"
pub record Book : Type 0 where
  pub letters : List ℕ
  pub templates : List Template

-- a template by its number: "templates .. count from 0"
abbrev pub template : Book → ℕ → Template
template k i = get_or k.templates i (record { limits = []; symbols = [] })

-- Reading.

-- a count: one byte from the one number to the other, both included
unfoldable pub count : ℕ → ℕ → List ℕ → Step ℕ
count low high [] = fault 41
count low high (x ∷ xs) = must (between low high x) 41 (got x xs)

-- "a symbol count and symbols", of a template with these limits; "a sheet's rule for it": a symbol count is 0 to 12, "Symbol 0 to L-1 is that letter; 128+f is
-- field f", the width "at most 24"
unfoldable pub some_symbols : ℕ → List ℕ → List ℕ → Step Template
some_symbols l limits xs =
    count 0 12 xs then (λ n xs1.
    row (template_byte l (length limits)) 0 n xs1 then (λ us xs2.
    must (leb (width limits (map symbol_of us)) 24) 41
    (got (record { limits = limits; symbols = map symbol_of us }) xs2)))

-- "Each template has a field count of 0 to 3, limits, a symbol count and symbols."
unfoldable pub a_template : ℕ → List ℕ → Step Template
a_template l xs =
    count 0 3 xs then (λ v xs1.
    row limit_byte 0 v xs1 then (λ limits xs2.
    some_symbols l limits xs2))

-- "a template count of 1 to 16, then the templates"
unfoldable pub some_templates : ℕ → List ℕ → Step (List Template)
some_templates l xs = count 1 16 xs then (λ n xs1. times n (a_template l) xs1)

-- "L and its letters", L from 1 to 8 as on a sheet, and then the templates
unfoldable pub body : List ℕ → Step Book
body xs =
    count 1 8 xs then (λ l xs1.
    row letter_byte 0 l xs1 then (λ ls xs2.
    some_templates l xs2 then (λ ts xs3.
    got (record { letters = ls; templates = ts }) xs3)))

-- The answer of reading: the book, or the refusal's number.
pub data Reading : Type 0 where
  accepted : Book → Reading
  refused : ℕ → Reading

-- whether a file has this mark, of three bytes, and "version 1 in 16 bits"
unfoldable pub opens : List ℕ → List ℕ → Bool
opens mark b = leb 5 (length b) && (starts_with mark b && eqb (sixteen (byte b 3) (byte b 4)) 1)

-- "the mark TPB"
abbrev pub mark : List ℕ
mark = 84 ∷ 80 ∷ 66 ∷ []

-- "41 when a count, letter, limit, symbol or width breaks a range given here or a sheet's rule for it, or bytes are missing or left over."
abbrev pub ended : Step Book → Reading
ended (got k []) = accepted k
ended (got k (x ∷ xs)) = refused 41
ended (fault n) = refused 41

-- "40 when the book is under five bytes or mark or version is wrong." It is tested before 41.
unfoldable pub read_book : List ℕ → Reading
read_book b = pick (opens mark b) (ended (body (drop 5 b))) (refused 40)

-- The bytes of a book, as document 02 lists them.
abbrev pub encode_template : Template → List ℕ
encode_template t = (length t.limits ∷ []) ++ (t.limits ++ ((length t.symbols ∷ []) ++ map symbol_byte t.symbols))

unfoldable pub encode_book : Book → List ℕ
encode_book k =
    mark ++ (bytes_of 1 ++ ((length k.letters ∷ []) ++ (k.letters ++ ((length k.templates ∷ []) ++ each k.templates encode_template))))

-- The ranges: which books there are.
pub record OwnIn (l : ℕ) (t : Template) : Type 0 where
  -- "a field count of 0 to 3"
  pub few : length t.limits ≤ 3
  -- "V limits, one byte each, 0 to 8."
  pub limits_in : All (λ n. n ≤ 8) t.limits
  -- at most 12 symbols, each a letter or a field that there is, at most 24 wide
  pub template_in : TemplateIn l t.limits t.symbols

pub record BookIn (k : Book) : Type 0 where
  -- "letter count L (1 to 8)"
  pub of_letters : (1 ≤ length k.letters) × (length k.letters ≤ 8)
  -- "L letters: bytes 33 to 126, strictly rising."
  pub letters_in : All (λ x. (33 ≤ x) × (x ≤ 126)) k.letters
  pub rising : Rising 0 k.letters
  -- "a template count of 1 to 16"
  pub of_templates : (1 ≤ length k.templates) × (length k.templates ≤ 16)
  pub templates_in : All (OwnIn (length k.letters)) k.templates

-- the book that accepted bytes say (of others, one with nothing in it)
abbrev pub book_in : Reading → Book
book_in (accepted k) = k
book_in (refused n) = record { letters = []; templates = [] }

unfoldable pub book_of : List ℕ → Book
book_of b = book_in (read_book b)

-- bytes that are accepted, with what that gives: of bytes below 256 the second follows from the first
abbrev pub Admitted : List ℕ → Type 0
Admitted b = (read_book b ≡ accepted (book_of b)) × BookIn (book_of b)
