-- What a sheet asks: substitutions, the words that they spell, and which of them solve the sheet.
use Rattle.std.specs.Prelude.{◌≡◌, Bool, true, false, ◌&&◌, List, [], ◌∷◌, map, ℕ, zero, suc, ◌<◌, ◌≤◌, eqb, ℤ, pos, ◌+ℤ◌, ◌*ℤ◌, length, get_or, ◌≤ℤ◌}
use Rattle.std.specs.Int.Signed.{le_z}
use Rattle.model.specs.Lists.{each, All, all}
use Rattle.model.specs.Sheet.{Symbol, letter, field, Equation, Constraint, Sheet, letter_of, coefficient}

-- A substitution (document 01: a filling): the fields' texts in order, a text being a list of letter numbers.
abbrev pub Substitution : Type 0
Substitution = List (List ℕ)

abbrev pub text : Substitution → ℕ → List ℕ
text g f = get_or g f []

-- "A filling gives each field a text over the letters, no longer than its limit." Of so many letters, and the fields' limits in order.
pub record Admits (l limit : ℕ) (t : List ℕ) : Type 0 where
  pub over_letters : All (λ a. a < l) t
  pub no_longer : length t ≤ limit

pub record Texts (l : ℕ) (limits : List ℕ) (g : Substitution) : Type 0 where
  pub one_each : length g ≡ length limits
  pub admits : (f : ℕ) → f < length limits → Admits l (get_or limits f 0) (text g f)

abbrev pub Legal : Sheet → Substitution → Type 0
Legal s g = Texts (length s.letters) s.limits g

-- The word that a template spells: its letters, and its fields' texts in their places (document 000: S(u), for a substitution S and a side u).
abbrev pub symbol_word : Substitution → Symbol → List ℕ
symbol_word g (letter a) = a ∷ []
symbol_word g (field f) = text g f

unfoldable pub spell : Substitution → List Symbol → List ℕ
spell g t = each t (symbol_word g)

-- "The text is written as the sheet's letter bytes".
abbrev pub letter_bytes : Sheet → List ℕ → List ℕ
letter_bytes s w = map (letter_of s) w

-- When two letters of a sheet count as the same: when their numbers are equal. All that compares texts goes by this.
unfoldable pub SameLetter : Sheet → ℕ → ℕ → Type 0
SameLetter s a b = a ≡ b

-- When two words of a sheet are the same text: when they are so letter by letter, up to the end of both.
unfoldable pub SameWord : Sheet → List ℕ → List ℕ → Type 0
SameWord s [] [] = Unit
SameWord s [] (b ∷ w) = ⊥
SameWord s (a ∷ u) [] = ⊥
SameWord s (a ∷ u) (b ∷ w) = SameLetter s a b × SameWord s u w

-- "both templates spell the same text"
abbrev pub EquationHolds : Sheet → Substitution → Equation → Type 0
EquationHolds s g e = SameWord s (spell g e.left) (spell g e.right)

-- "the sum of coefficient × field length", over the first k fields
unfoldable pub weight : Constraint → Substitution → ℕ → ℤ
weight r g zero = pos 0
weight r g (suc k) = weight r g k +ℤ coefficient r k *ℤ pos (length (text g k))

-- "A rule holds when the sum of coefficient × field length is at most the limit."
abbrev pub ConstraintHolds : Sheet → Substitution → Constraint → Type 0
ConstraintHolds s g r = weight r g (length s.limits) ≤ℤ r.most

-- What fields ask of their texts beyond letters and limits: nothing in version 1.
unfoldable pub Keeps : Sheet → Substitution → Type 0
Keeps s g = Unit

-- "A filling clashes when, for every pair, both templates spell the same text, and every rule holds." That is, it solves the sheet's
-- word equations within the limits, and the linear length constraints (document 000: preliminaries, and "Adding Linear Length
-- Constraints"). "One field has one text across all pairs": it is one g throughout.
pub record Solves (s : Sheet) (g : Substitution) : Type 0 where
  pub is_legal : Legal s g
  pub equations_hold : All (EquationHolds s g) s.equations
  pub constraints_hold : All (ConstraintHolds s g) s.constraints
  pub keeps_all : Keeps s g

-- The same as tests. `Words.antt` shows that they decide it.
unfoldable pub same_letter : Sheet → ℕ → ℕ → Bool
same_letter s a b = eqb a b

unfoldable pub same_word : Sheet → List ℕ → List ℕ → Bool
same_word s [] [] = true
same_word s [] (b ∷ w) = false
same_word s (a ∷ u) [] = false
same_word s (a ∷ u) (b ∷ w) = same_letter s a b && same_word s u w

unfoldable pub equation_holds : Sheet → Substitution → Equation → Bool
equation_holds s g e = same_word s (spell g e.left) (spell g e.right)

unfoldable pub constraint_holds : Sheet → Substitution → Constraint → Bool
constraint_holds s g r = le_z (weight r g (length s.limits)) r.most

unfoldable pub keeps : Sheet → Substitution → Bool
keeps s g = true

-- whether a legal substitution solves the sheet
unfoldable pub solves : Sheet → Substitution → Bool
solves s g = all (equation_holds s g) s.equations && (all (constraint_holds s g) s.constraints && keeps s g)
