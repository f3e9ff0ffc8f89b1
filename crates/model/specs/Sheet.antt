-- A sheet: what it says, and the bytes that say it. `read` gives the sheet of a list of bytes or the first
-- refusal in document 01's order, `encode` the bytes of a sheet. Nothing here says what a sheet means.
use Rattle.std.specs.Prelude.{◌≡◌, Bool, true, false, ◌&&◌, ◌||◌, List, [], ◌∷◌, ◌++◌, map, ℕ, zero, suc, ◌+◌, ◌-◌, ◌*◌, ◌/◌, ◌%◌, leb, ltb, eqb, ℤ, pos, negsuc, nat_abs, ◌-ℤ◌, length, get_or, drop}
use Rattle.model.specs.Lists.{pick, between, starts_with, each}

-- What a sheet says.

-- A symbol of a template: the letter of that number, or the field of that number.
pub data Symbol : Type 0 where
  letter : ℕ → Symbol
  field : ℕ → Symbol

-- An equation (document 01: a pair): two templates.
pub record Equation : Type 0 where
  pub left : List Symbol
  pub right : List Symbol

-- A linear length constraint (document 01: a rule): one coefficient for each field, and the limit, called `most` here.
pub record Constraint : Type 0 where
  pub coefficients : List ℤ
  pub most : ℤ

-- The letters' bytes ("A letter's number is its place from 0."), the fields' limits (a field is a bounded string variable), the equations
-- and the constraints.
pub record Sheet : Type 0 where
  pub letters : List ℕ
  pub limits : List ℕ
  pub equations : List Equation
  pub constraints : List Constraint

-- Its parts by number: a letter's byte, a field's limit, an equation, one of its templates (side 0 is the left, any other the right), a
-- constraint, a coefficient.
abbrev pub letter_of : Sheet → ℕ → ℕ
letter_of s a = get_or s.letters a 0

abbrev pub limit : Sheet → ℕ → ℕ
limit s f = get_or s.limits f 0

abbrev pub equation : Sheet → ℕ → Equation
equation s p = get_or s.equations p (record { left = []; right = [] })

abbrev pub template : Sheet → ℕ → ℕ → List Symbol
template s p side = pick (eqb side 0) (equation s p).left (equation s p).right

abbrev pub constraint : Sheet → ℕ → Constraint
constraint s r = get_or s.constraints r (record { coefficients = []; most = pos 0 })

abbrev pub coefficient : Constraint → ℕ → ℤ
coefficient r f = get_or r.coefficients f (pos 0)

-- "The width of a template is its letters plus the limits of its fields, repeats counted".
abbrev pub cells_of : List ℕ → Symbol → ℕ
cells_of limits (letter a) = 1
cells_of limits (field f) = get_or limits f 0

unfoldable pub width : List ℕ → List Symbol → ℕ
width limits [] = 0
width limits (x ∷ xs) = cells_of limits x + width limits xs

-- Numbers in bytes.

-- "Two-byte numbers have the high byte first."
abbrev pub sixteen : ℕ → ℕ → ℕ
sixteen high low = high * 256 + low

-- two's complement: a number stands for itself below `half`, and from there on for itself less twice the half
unfoldable pub signed : ℕ → ℕ → ℤ
signed half n = pick (ltb n half) (pos n) (pos n -ℤ pos (half + half))

unfoldable pub unsigned : ℕ → ℤ → ℕ
unsigned half (pos n) = n
unsigned half (negsuc n) = half + half - suc n

-- "two's complement bytes", and "signed 16 bits"
abbrev pub signed8 : ℕ → ℤ
signed8 b = signed 128 b

abbrev pub signed16 : ℕ → ℕ → ℤ
signed16 high low = signed 32768 (sixteen high low)

-- "Symbol 0 to L-1 is that letter; 128+f is field f".
abbrev pub symbol_of : ℕ → Symbol
symbol_of x = pick (ltb x 128) (letter x) (field (x - 128))

abbrev pub symbol_byte : Symbol → ℕ
symbol_byte (letter a) = a
symbol_byte (field f) = 128 + f

-- Reading: how a walk through the bytes goes on.

-- What was read with the bytes after it, or the number of the fault that was met.
pub data Step (A : Type 0) : Type 0 where
  got : A → List ℕ → Step A
  fault : ℕ → Step A

-- a step without what was read: what is left, or the fault
abbrev pub rest : {A : Type 0} → Step A → Step Unit
rest (got a xs) = got tt xs
rest (fault n) = fault n

infixr 10 ◌then◌
-- "the first fault met is given": the walk goes on with what was got, or ends at the fault
abbrev pub ◌then◌ : {A B : Type 0} → Step A → (A → List ℕ → Step B) → Step B
got a xs then go = go a xs
fault n then go = fault n

-- the walk goes on if a test passes, and else ends at fault n
abbrev pub must : {A : Type 0} → Bool → ℕ → Step A → Step A
must ok n go = pick ok go (fault n)

-- What a byte of the walk stands for: a letter, a limit, a symbol count, a symbol (of a sheet with so many letters and fields), a
-- coefficient, or half of a constraint's limit.
pub data Role : Type 0 where
  letter_byte : Role
  limit_byte : Role
  count_byte : Role
  template_byte : ℕ → ℕ → Role
  coefficient_byte : Role
  most_byte : Role

-- Which bytes it may be, the byte before it in its row given (0 for the first).
abbrev pub passes : Role → ℕ → ℕ → Bool
-- "L letters: bytes 33 to 126, strictly rising."
passes letter_byte before x = between 33 126 x && ltb before x
-- "V limits, one byte each, 0 to 8."
passes limit_byte before x = leb x 8
-- "left symbol count, right symbol count (each 0 to 12)"
passes count_byte before x = leb x 12
-- "Symbol 0 to L-1 is that letter; 128+f is field f, f below V."
passes (template_byte l v) before x = ltb x l || (leb 128 x && ltb x (128 + v))
-- "V coefficients from -4 to 4, two's complement bytes"
passes coefficient_byte before x = leb (nat_abs (signed8 x)) 4
-- "then a limit, signed 16 bits": any two bytes
passes most_byte before x = true

-- "10 letter out of range or not rising; 11 limit; 12 symbol count; 13 symbol; .. 15 coefficient". Half of a constraint's limit always
-- passes, so its number here is never given.
abbrev pub refusal_of : Role → ℕ
refusal_of letter_byte = 10
refusal_of limit_byte = 11
refusal_of count_byte = 12
refusal_of (template_byte l v) = 13
refusal_of coefficient_byte = 15
refusal_of most_byte = 8

-- A row of n bytes of one role. "8 the next byte needed is missing".
unfoldable pub row : Role → ℕ → ℕ → List ℕ → Step (List ℕ)
row role before zero xs = got [] xs
row role before (suc n) [] = fault 8
row role before (suc n) (x ∷ xs) =
    must (passes role before x) (refusal_of role) (row role x n xs then (λ ys zs. got (x ∷ ys) zs))

-- n of a kind, one after another
unfoldable pub times : {A : Type 0} → ℕ → (List ℕ → Step A) → List ℕ → Step (List A)
times zero one xs = got [] xs
times (suc n) one xs = one xs then (λ a ys. times n one ys then (λ more zs. got (a ∷ more) zs))

-- "left symbols, right symbols", m of the one and n of the other; then "14 width (tested after a pair's symbols, left then right)",
-- "at most 24".
unfoldable pub sides : ℕ → List ℕ → ℕ → ℕ → List ℕ → Step Equation
sides l limits m n xs =
    row (template_byte l (length limits)) 0 m xs then (λ us xs1.
    row (template_byte l (length limits)) 0 n xs1 then (λ ws xs2.
    must (leb (width limits (map symbol_of us)) 24) 14
    (must (leb (width limits (map symbol_of ws)) 24) 14
    (got (record { left = map symbol_of us; right = map symbol_of ws }) xs2))))

-- "E pairs: left symbol count, right symbol count (each 0 to 12), left symbols, right symbols."
unfoldable pub an_equation : ℕ → List ℕ → List ℕ → Step Equation
an_equation l limits xs =
    row count_byte 0 2 xs then (λ counts xs1. sides l limits (get_or counts 0 0) (get_or counts 1 0) xs1)

-- "R rules: V coefficients .., then a limit, signed 16 bits."
unfoldable pub a_constraint : ℕ → List ℕ → Step Constraint
a_constraint v xs =
    row coefficient_byte 0 v xs then (λ cs xs1.
    row most_byte 0 2 xs1 then (λ m xs2.
    got (record { coefficients = map signed8 cs; most = signed16 (get_or m 0 0) (get_or m 1 0) }) xs2))

-- The four counts of a header: letters, fields, equations, constraints.
pub record Counts : Type 0 where
  pub letter_count : ℕ
  pub field_count : ℕ
  pub equation_count : ℕ
  pub constraint_count : ℕ

-- "the mark is the three bytes TPL"
abbrev pub mark : List ℕ
mark = 84 ∷ 80 ∷ 76 ∷ []

-- the byte at an offset, and "Offsets 5 to 8: letter count L .., field count V .., pair count E .., rule count R"
abbrev pub byte : List ℕ → ℕ → ℕ
byte b k = get_or b k 0

abbrev pub counts_at : List ℕ → Counts
counts_at b = record { letter_count = byte b 5; field_count = byte b 6; equation_count = byte b 7; constraint_count = byte b 8 }

-- "Reading: 1 under 9 bytes; 2 mark; 3 version; 4 L; 5 V; 6 E; 7 R."
-- "Offset 3: version, 16 bits, 1." "Offsets 5 to 8: letter count L (1 to 8), field count V (0 to 6), pair count E (1 to 4), rule
-- count R (0 to 4)."
unfoldable pub opening : List ℕ → Step Counts
opening b =
    must (leb 9 (length b)) 1
    (must (starts_with mark b) 2
    (must (eqb (sixteen (byte b 3) (byte b 4)) 1) 3
    (must (between 1 8 (byte b 5)) 4
    (must (between 0 6 (byte b 6)) 5
    (must (between 1 4 (byte b 7)) 6
    (must (between 0 4 (byte b 8)) 7
    (got (counts_at b) (drop 9 b))))))))

-- "The walk then goes through the bytes in order": letters, limits, equations, constraints.
unfoldable pub walk : Counts → List ℕ → Step Sheet
walk c xs =
    row letter_byte 0 c.letter_count xs then (λ ls xs1.
    row limit_byte 0 c.field_count xs1 then (λ limits xs2.
    times c.equation_count (an_equation c.letter_count limits) xs2 then (λ es xs3.
    times c.constraint_count (a_constraint c.field_count) xs3 then (λ rs xs4.
    got (record { letters = ls; limits = limits; equations = es; constraints = rs }) xs4))))

-- The answer of reading: the sheet, or the refusal's number.
pub data Reading : Type 0 where
  accepted : Sheet → Reading
  refused : ℕ → Reading

-- "9 comes last: bytes left over."
abbrev pub ended : Step Sheet → Reading
ended (got s []) = accepted s
ended (got s (x ∷ xs)) = refused 9
ended (fault n) = refused n

-- Reading: the header, the walk, the end.
unfoldable pub read : List ℕ → Reading
read b = ended (opening b then walk)

-- The bytes of a sheet, as document 01 lists them under "The sheet".
-- "left symbol count, right symbol count .., left symbols, right symbols"
abbrev pub encode_equation : Equation → List ℕ
encode_equation e =
    (length e.left ∷ length e.right ∷ []) ++ (map symbol_byte e.left ++ map symbol_byte e.right)

-- "the high byte first"
abbrev pub bytes_of : ℕ → List ℕ
bytes_of n = n / 256 ∷ n % 256 ∷ []

-- "V coefficients .., two's complement bytes, then a limit, signed 16 bits"
abbrev pub encode_constraint : Constraint → List ℕ
encode_constraint r = map (unsigned 128) r.coefficients ++ bytes_of (unsigned 32768 r.most)

-- the four counts that a sheet's header has
abbrev pub counts_of : Sheet → Counts
counts_of s = record {
  letter_count = length s.letters;
  field_count = length s.limits;
  equation_count = length s.equations;
  constraint_count = length s.constraints;
}

-- "Offset 0: the mark .. . Offset 3: version, 16 bits, 1." "Offsets 5 to 8": the four counts
abbrev pub header : Counts → List ℕ
header c = mark ++ (bytes_of 1 ++ (c.letter_count ∷ c.field_count ∷ c.equation_count ∷ c.constraint_count ∷ []))

unfoldable pub encode : Sheet → List ℕ
encode s =
    header (counts_of s) ++ (s.letters ++ (s.limits ++ (each s.equations encode_equation ++ each s.constraints encode_constraint)))

-- "A sheet is accepted when it breaks none of the rules under Reading."
abbrev pub is_accepted : Reading → Bool
is_accepted (accepted s) = true
is_accepted (refused n) = false

unfoldable pub Accepted : List ℕ → Type 0
Accepted b = is_accepted (read b) ≡ true

-- The sheet that accepted bytes say (of others, one with nothing in it).
abbrev pub sheet_in : Reading → Sheet
sheet_in (accepted s) = s
sheet_in (refused n) = record { letters = []; limits = []; equations = []; constraints = [] }

unfoldable pub sheet_of : List ℕ → Sheet
sheet_of b = sheet_in (read b)
