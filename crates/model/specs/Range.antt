-- The ranges of document 01: which sheets there are. Stated of what a sheet says, and not of its bytes.
use Rattle.std.specs.Prelude.{◌≡◌, List, [], ◌∷◌, ℕ, suc, ◌≤◌, ◌<◌, ℤ, pos, negsuc, nat_abs, length}
use Rattle.model.specs.Lists.{All}
use Rattle.model.specs.Sheet.{Symbol, letter, field, Equation, Constraint, Sheet, width, Counts, counts_of, Accepted, sheet_of}

-- "strictly rising", above the number before them
unfoldable pub Rising : ℕ → List ℕ → Type 0
Rising before [] = Unit
Rising before (x ∷ xs) = (before < x) × Rising x xs

-- "Symbol 0 to L-1 is that letter; 128+f is field f, f below V."
abbrev pub SymbolIn : ℕ → ℕ → Symbol → Type 0
SymbolIn l v (letter a) = a < l
SymbolIn l v (field f) = f < v

-- A template of an equation: at most 12 symbols, and "The width of a template .. ; at most 24."
pub record TemplateIn (l : ℕ) (limits : List ℕ) (t : List Symbol) : Type 0 where
  pub symbols : All (SymbolIn l (length limits)) t
  pub count : length t ≤ 12
  pub wide : width limits t ≤ 24

pub record EquationIn (l : ℕ) (limits : List ℕ) (e : Equation) : Type 0 where
  pub left_in : TemplateIn l limits e.left
  pub right_in : TemplateIn l limits e.right

-- "signed 16 bits": from -32768 to 32767
abbrev pub Signed16 : ℤ → Type 0
Signed16 (pos n) = n ≤ 32767
Signed16 (negsuc n) = suc n ≤ 32768

-- "V coefficients from -4 to 4"
pub record ConstraintIn (v : ℕ) (r : Constraint) : Type 0 where
  pub one_each : length r.coefficients ≡ v
  pub small : All (λ c. nat_abs c ≤ 4) r.coefficients
  pub most_in : Signed16 r.most

-- "letter count L (1 to 8), field count V (0 to 6), pair count E (1 to 4), rule count R (0 to 4)"
pub record CountsIn (c : Counts) : Type 0 where
  pub of_letters : (1 ≤ c.letter_count) × (c.letter_count ≤ 8)
  pub of_fields : c.field_count ≤ 6
  pub of_equations : (1 ≤ c.equation_count) × (c.equation_count ≤ 4)
  pub of_constraints : c.constraint_count ≤ 4

-- "L letters: bytes 33 to 126, strictly rising." "V limits, one byte each, 0 to 8."
pub record InRange (s : Sheet) : Type 0 where
  pub counts_in : CountsIn (counts_of s)
  pub letters_in : All (λ x. (33 ≤ x) × (x ≤ 126)) s.letters
  pub rising : Rising 0 s.letters
  pub limits_in : All (λ n. n ≤ 8) s.limits
  pub equations_in : All (EquationIn (length s.letters) s.limits) s.equations
  pub constraints_in : All (ConstraintIn (length s.limits)) s.constraints

-- What the clauses need of a sheet: that each symbol names a letter or a field that the sheet has. No number of them plays a part.
abbrev pub WellFormed : Sheet → Type 0
WellFormed s =
    All (λ e. All (SymbolIn (length s.letters) (length s.limits)) e.left × All (SymbolIn (length s.letters) (length s.limits)) e.right) s.equations

-- Bytes that are accepted, with what that gives: of bytes below 256 the second follows from the first.
abbrev pub Admitted : List ℕ → Type 0
Admitted b = Accepted b × InRange (sheet_of b)
