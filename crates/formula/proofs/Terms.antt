-- Clauses over named variables, as document 01 writes them: every clause of the file has a true literal exactly when every clause that is
-- listed has a true term, terms known through a letter cell among them. And what the terms of a cell say where the K variables read as a
-- substitution. Assumes nothing.
use mathlib.Core.Path.{◌≡◌, refl, sym, ap, ◌∙◌}
use mathlib.Core.Bool.{Bool, true, false, not, ◌&&◌, ◌||◌}
use mathlib.Core.List.{List, [], ◌∷◌}
use Prim.Native.Nat.{ℕ, ◌<◌, ◌≤◌}
use native.Mathlib.Omega.{arith}
use lib.Dec.{eqb}
use lib.ListN.{get_or}
use borrow.Author.Tests.{ne_eqb}
use Rattle.model.specs.Lists.{each, any, All}
use Rattle.model.specs.Sheet.{Sheet, limit}
use Rattle.model.specs.Word.{Substitution, text}
use Rattle.model.specs.Cells.{Cell, letter, place, value}
use Rattle.formula.specs.Clause.{Variable, K, Literal, is, isnt, blank, fields, Term, known, unknown, holds, lacks, is_blank, not_blank, only, ClauseId, terms, sure, literal_of, left_out, literals, listed, stays, ids}
use Rattle.formula.specs.Numbering.{number}
use Rattle.formula.specs.Assignment.{Assignment}
use Rattle.model.proofs.Lists.{never, by_test, or_left, or_right, weaken}
use Rattle.model.proofs.Keeping.{keep_out, keep_in}
use Rattle.formula.proofs.Named.{Every, listed_out, listed_in}
use Rattle.formula.proofs.Valid.{CellIn}

-- Which variables are true, by name.
abbrev pub Valuation : Type 0
Valuation = Variable → Bool

abbrev pub true_literal : Valuation → Literal → Bool
true_literal v (is x) = v x
true_literal v (isnt x) = not (v x)

abbrev pub truth : Valuation → Term → Bool
truth v (known b) = b
truth v (unknown l) = true_literal v l

-- what an assignment says of a variable
abbrev pub named : Sheet → Assignment → Valuation
named s w x = w (number s x)

-- a clause of the file has a true literal; a clause that is listed has a true term
abbrev pub HasTrue : Sheet → Valuation → ClauseId → Type 0
HasTrue s v q = any (true_literal v) (literals s q) ≡ true

abbrev pub Met : Sheet → Valuation → ClauseId → Type 0
Met s v q = any (truth v) (terms s q) ≡ true

or_swap : (a b c : Bool) → (a || (b || c)) ≡ (b || (a || c))
or_swap true true c = refl
or_swap true false c = refl
or_swap false b c = refl

-- a known term decides, or drops out
met_split : (v : Valuation) (ts : List Term) → any (truth v) ts ≡ (any sure ts || any (true_literal v) (each ts literal_of))
unfolding any each
met_split v [] = refl
met_split v (known true ∷ ts) = refl
met_split v (known false ∷ ts) = met_split v ts
met_split v (unknown l ∷ ts) =
    ap (λ z. true_literal v l || z) (met_split v ts) ∙ or_swap (true_literal v l) (any sure ts) (any (true_literal v) (each ts literal_of))

module _ (s : Sheet) (v : Valuation) where
  met_out : (q : ClauseId) → (stays s q ≡ true → HasTrue s v q) → Met s v q
  unfolding left_out literals
  met_out q h =
      met_split v (terms s q)
      ∙ by_test (any sure (terms s q)) (λ e. or_left _ e) (λ e. or_right (any sure (terms s q)) (h (rw e)))

  met_in : (q : ClauseId) → Met s v q → stays s q ≡ true → HasTrue s v q
  unfolding left_out literals
  met_in q h n = dropped (any sure (terms s q)) _ n (sym (met_split v (terms s q)) ∙ h)
    where
      dropped : (a b : Bool) → not a ≡ true → (a || b) ≡ true → b ≡ true
      dropped true b n h = never n
      dropped false b n h = h

  pub met_every : All (HasTrue s v) (ids s) → Every s (Met s v)
  unfolding ids
  met_every h = listed_out s (Met s v) (weaken _ _ (listed s) met_out (keep_out (HasTrue s v) (stays s) (listed s) h))

  pub every_met : Every s (Met s v) → All (HasTrue s v) (ids s)
  unfolding ids
  every_met h = keep_in (HasTrue s v) (stays s) (listed s) (weaken _ _ (listed s) met_in (listed_in s (Met s v) h))

-- The K variables say what the substitution has at each place, blank past a text's end.
abbrev pub Reads : Sheet → Valuation → Substitution → Type 0
Reads s v g = (f c a : ℕ) → f < fields s → c < limit s f → a ≤ blank s → v (K f c a) ≡ eqb (get_or (text g f) c (blank s)) a

pub truth-only : (v : Valuation) (b : Bool) (t : Term) → truth v (only b t) ≡ (b && truth v t)
truth-only v true t = refl
truth-only v false t = refl

-- a cell's term with a "not" is the negation of the one without
pub truth-lacks : (v : Valuation) (u : Cell) (a : ℕ) → truth v (lacks u a) ≡ not (truth v (holds u a))
truth-lacks v (letter b) a = refl
truth-lacks v (place f c) a = refl

pub truth_not_blank : (s : Sheet) (v : Valuation) (u : Cell) → truth v (not_blank s u) ≡ not (truth v (is_blank s u))
truth_not_blank s v (letter b) = refl
truth_not_blank s v (place f c) = refl

module _ (s : Sheet) (v : Valuation) (g : Substitution) (reads : Reads s v g) where
  pub truth-holds : (u : Cell) (a : ℕ) → CellIn s u → a ≤ blank s → truth v (holds u a) ≡ eqb (value (blank s) g u) a
  truth-holds (letter b) a h k = refl
  truth-holds (place f c) a h k = reads f c a h.0 h.1 k

  pub truth-blank : (u : Cell) → CellIn s u → truth v (is_blank s u) ≡ eqb (value (blank s) g u) (blank s)
  truth-blank (letter b) h = sym (ne_eqb b (blank s) (λ q. omega arith))
  truth-blank (place f c) h = reads f c (blank s) h.0 h.1 (omega arith)
