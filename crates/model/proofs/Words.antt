-- The tests of specs/Word decide what it says; and the word that a template spells: symbol by symbol, by the texts of its fields alone,
-- over the letters, and no longer than its cells. Assumes nothing.
use mathlib.Core.Path.{◌≡◌, refl, ap, ap₂, subst}
use mathlib.Core.Bool.{Bool, true, false, ◌&&◌}
use mathlib.Core.List.{List, [], ◌∷◌, ◌++◌}
use Prim.Native.Nat.{ℕ, suc, ◌+◌, ◌<◌, ◌≤◌}
use native.Mathlib.Omega.{arith}
use lib.Dec.{T, eqb}
use lib.ListN.{length, get_or, take, length-append}
use lib.Signed.{le_z}
use borrow.Author.Tests.{eqb-true, eq-eqb}
use Rattle.model.specs.Lists.{each, All, all}
use Rattle.model.specs.Sheet.{Symbol, letter, field, Equation, Constraint, Sheet, cells_of, width}
use Rattle.model.specs.Range.{SymbolIn}
use Rattle.model.specs.Word.{Substitution, text, Legal, symbol_word, spell, SameLetter, SameWord, EquationHolds, weight, ConstraintHolds, Keeps, Solves, same_letter, same_word, equation_holds, constraint_holds, keeps, solves}
use Rattle.model.proofs.Lists.{never, and_split, and_join, and_true, weaken, each_in, all_out, all_in, each_same, each_next, each_part}

-- Two letters count as the same exactly when they are equal, and so do two words; `same_letter` and `same_word` decide it.
pub same-letter : (s : Sheet) (a b : ℕ) → same_letter s a b ≡ eqb a b
unfolding same_letter
same-letter s a b = refl

same-letter_out : (s : Sheet) (a b : ℕ) → same_letter s a b ≡ true → SameLetter s a b
unfolding same_letter SameLetter
same-letter_out s a b h = eqb-true a b h

same-letter_in : (s : Sheet) (a b : ℕ) → SameLetter s a b → same_letter s a b ≡ true
unfolding same_letter SameLetter
same-letter_in s a b h = eq-eqb a b h

pub same-word-equal : (s : Sheet) (u w : List ℕ) → SameWord s u w → u ≡ w
unfolding SameWord SameLetter
same-word-equal s [] [] h = refl
same-word-equal s [] (b ∷ w) h = absurd h
same-word-equal s (a ∷ u) [] h = absurd h
same-word-equal s (a ∷ u) (b ∷ w) h = ap₂ ◌∷◌ h.0 (same-word-equal s u w h.1)

pub equal-same-word : (s : Sheet) (u w : List ℕ) → u ≡ w → SameWord s u w
unfolding SameWord SameLetter
equal-same-word s u w h = subst (SameWord s u) h (itself u)
  where
    itself : (v : List ℕ) → SameWord s v v
    itself [] = tt
    itself (a ∷ v) = (refl, itself v)

pub same-word-length : (s : Sheet) (u w : List ℕ) → SameWord s u w → length u ≡ length w
unfolding SameWord
same-word-length s [] [] h = refl
same-word-length s [] (b ∷ w) h = absurd h
same-word-length s (a ∷ u) [] h = absurd h
same-word-length s (a ∷ u) (b ∷ w) h = ap suc (same-word-length s u w h.1)

pub same-word_out : (s : Sheet) (u w : List ℕ) → same_word s u w ≡ true → SameWord s u w
unfolding same_word SameWord
same-word_out s [] [] h = tt
same-word_out s [] (b ∷ w) h = never h
same-word_out s (a ∷ u) [] h = never h
same-word_out s (a ∷ u) (b ∷ w) h =
    let r = and_split (same_letter s a b) (same_word s u w) h in
    (same-letter_out s a b r.0, same-word_out s u w r.1)

pub same-word_in : (s : Sheet) (u w : List ℕ) → SameWord s u w → same_word s u w ≡ true
unfolding same_word SameWord
same-word_in s [] [] h = refl
same-word_in s [] (b ∷ w) h = absurd h
same-word_in s (a ∷ u) [] h = absurd h
same-word_in s (a ∷ u) (b ∷ w) h = and_join (same-letter_in s a b h.0) (same-word_in s u w h.1)

pub equation_out : (s : Sheet) (g : Substitution) (e : Equation) → equation_holds s g e ≡ true → EquationHolds s g e
unfolding equation_holds
equation_out s g e = same-word_out s (spell g e.left) (spell g e.right)

pub equation_in : (s : Sheet) (g : Substitution) (e : Equation) → EquationHolds s g e → equation_holds s g e ≡ true
unfolding equation_holds
equation_in s g e = same-word_in s (spell g e.left) (spell g e.right)

-- `solves` decides `Solves` of a legal substitution.
pub of_test : (b : Bool) → b ≡ true → T b
of_test true e = tt
of_test false e = never e

to_test : (b : Bool) → T b → b ≡ true
to_test true t = refl
to_test false t = absurd t

pub constraint_out : (s : Sheet) (g : Substitution) (r : Constraint) → constraint_holds s g r ≡ true → ConstraintHolds s g r
unfolding constraint_holds
constraint_out s g r e = record { le = of_test (le_z (weight r g (length s.limits)) r.most) e }

pub constraint_in : (s : Sheet) (g : Substitution) (r : Constraint) → ConstraintHolds s g r → constraint_holds s g r ≡ true
unfolding constraint_holds
constraint_in s g r h = to_test (le_z (weight r g (length s.limits)) r.most) h.le

-- what fields ask beyond letters and limits
pub keeps_every : (s : Sheet) (g : Substitution) → Keeps s g
unfolding Keeps
keeps_every s g = tt

keeps_in : (s : Sheet) (g : Substitution) → Keeps s g → keeps s g ≡ true
unfolding keeps
keeps_in s g k = refl

pub solves_out : (s : Sheet) (g : Substitution) → Legal s g → solves s g ≡ true → Solves s g
unfolding solves
solves_out s g ok e =
    let r = and_split (all (equation_holds s g) s.equations) (all (constraint_holds s g) s.constraints && keeps s g) e in
    let q = and_split (all (constraint_holds s g) s.constraints) (keeps s g) r.1 in
    record {
      is_legal = ok;
      equations_hold = weaken _ (EquationHolds s g) s.equations (equation_out s g) (all_out (equation_holds s g) s.equations r.0);
      constraints_hold = weaken _ (ConstraintHolds s g) s.constraints (constraint_out s g) (all_out (constraint_holds s g) s.constraints q.0);
      keeps_all = keeps_every s g;
    }

pub solves_in : (s : Sheet) (g : Substitution) → Solves s g → solves s g ≡ true
unfolding solves
solves_in s g h =
    and_join
    (all_in (equation_holds s g) s.equations (weaken _ _ s.equations (equation_in s g) h.equations_hold))
    (and_join (all_in (constraint_holds s g) s.constraints (weaken _ _ s.constraints (constraint_in s g) h.constraints_hold)) (keeps_in s g h.keeps_all))

-- in version 1 it is decided by the equations and the constraints
pub solves-parts : (s : Sheet) (g : Substitution) → solves s g ≡ (all (equation_holds s g) s.equations && all (constraint_holds s g) s.constraints)
unfolding solves keeps
solves-parts s g = ap (λ b. all (equation_holds s g) s.equations && b) (and_true (all (constraint_holds s g) s.constraints))

-- The word of a template, symbol by symbol.
pub spell-none : (g : Substitution) → spell g [] ≡ []
unfolding spell each
spell-none g = refl

pub spell-more : (g : Substitution) (t : List Symbol) (i : ℕ) (d : Symbol) → i < length t → spell g (take (i + 1) t) ≡ spell g (take i t) ++ symbol_word g (get_or t i d)
unfolding spell
spell-more g t i d h = each_next (symbol_word g) t i d h

pub spell_part : (g : Substitution) (t : List Symbol) (i : ℕ) → length (spell g (take i t)) ≤ length (spell g t)
unfolding spell
spell_part g t i = each_part (symbol_word g) t i

-- Substitutions that agree in the texts of v fields.
abbrev pub Agree : ℕ → Substitution → Substitution → Type 0
Agree v g h = (f : ℕ) → f < v → text g f ≡ text h f

module _ (v : ℕ) (g h : Substitution) (same : Agree v g h) where
  pub spell-agree : (l : ℕ) (t : List Symbol) → All (SymbolIn l v) t → spell g t ≡ spell h t
  unfolding spell
  spell-agree l t ok = each_same (symbol_word g) (symbol_word h) t (weaken _ _ t one ok)
    where
      one : (x : Symbol) → SymbolIn l v x → symbol_word g x ≡ symbol_word h x
      one (letter a) k = refl
      one (field f) k = same f k

-- Of a legal substitution: a template spells letters, and no more than it has cells.
module _ (s : Sheet) (g : Substitution) (ok : Legal s g) where
  pub spell_over : (t : List Symbol) → All (SymbolIn (length s.letters) (length s.limits)) t → All (λ a. a < length s.letters) (spell g t)
  unfolding spell All
  spell_over t h = each_in (λ a. a < length s.letters) t (symbol_word g) (weaken _ _ t one h)
    where
      one : (x : Symbol) → SymbolIn (length s.letters) (length s.limits) x → All (λ a. a < length s.letters) (symbol_word g x)
      one (letter a) k = (k, tt)
      one (field f) k = (ok.admits f k).over_letters

  symbol_short : (x : Symbol) → SymbolIn (length s.letters) (length s.limits) x → length (symbol_word g x) ≤ cells_of s.limits x
  symbol_short (letter a) k = omega arith
  symbol_short (field f) k = (ok.admits f k).no_longer

  pub spell-short : (t : List Symbol) → All (SymbolIn (length s.letters) (length s.limits)) t → length (spell g t) ≤ width s.limits t
  unfolding spell each width All
  spell-short [] h = omega arith
  spell-short (x ∷ xs) h =
      let one = symbol_short x h.0 in
      let others = spell-short xs h.1 in
      rw (length-append (symbol_word g x) (each xs (symbol_word g))) (omega arith)
