-- What the lines' bytes say of an assignment is what the clauses say of the variables by name; and of an assignment only what it makes of
-- the variables, 1 up to their count, plays a part. By the laws of the numbering and of the lines; no byte is looked at. Assumes nothing.
use mathlib.Core.Path.{◌≡◌, refl, sym, ap, ap₂, ◌∙◌}
use mathlib.Core.Bool.{true, not, ◌||◌}
use mathlib.Core.List.{List, [], ◌∷◌, ◌++◌, map}
use Prim.Native.Nat.{ℕ, zero, suc, ◌+◌, ◌<◌, ◌≤◌}
use native.Mathlib.Omega.{arith}
use lib.IntN.{pos, neg_ℤ}
use lib.ListN.{length, get_or}
use Rattle.model.specs.Lists.{from, any, All}
use Rattle.model.specs.Sheet.{Sheet, limit}
use Rattle.model.specs.Range.{WellFormed}
use Rattle.formula.specs.Clause.{Variable, K, Literal, is, isnt, blank, fields, none, literals, ids, id_at}
use Rattle.formula.specs.Numbering.{VariableIn, variables, number, signed_number, clause}
use Rattle.formula.specs.Dimacs.{line, numbers}
use Rattle.formula.specs.Count.{IdIn}
use Rattle.formula.specs.Assignment.{Assignment, true_number, Satisfies, satisfied, true_values, held, up_to_blank, spelled}
use Rattle.model.proofs.Lists.{at, from_at, from_out, all_out, all_in}
use Rattle.model.proofs.Keeping.{from_in, keep_below, map_below}
use Rattle.formula.proofs.Named.{Every, ids_in}
use Rattle.formula.proofs.Valid.{LiteralIn, literals_in}
use Rattle.formula.proofs.Numbering.{positive, variable_count_lem, number_small}
use Rattle.formula.proofs.Lines.{numbers-line}
use Rattle.formula.proofs.Terms.{Valuation, named, true_literal, HasTrue, Met, met_every, every_met}

-- a number other than 0, and minus it
plus_true : (w : Assignment) (n : ℕ) → 0 < n → true_number w (pos n) ≡ w n
plus_true w zero h = absurd (omega arith)
plus_true w (suc n) h = refl

minus_true : (w : Assignment) (n : ℕ) → 0 < n → true_number w (neg_ℤ (pos n)) ≡ not (w n)
minus_true w zero h = absurd (omega arith)
minus_true w (suc n) h = refl

module _ (s : Sheet) (w : Assignment) where
  literal_true : (l : Literal) → true_number w (signed_number s l) ≡ true_literal (named s w) l
  literal_true (is x) = plus_true w _ (positive s x)
  literal_true (isnt x) = minus_true w _ (positive s x)

  -- the literals of a line and the 0 at its end
  ended_true : (ls : List Literal) → any (true_number w) (map (signed_number s) ls ++ (pos 0 ∷ [])) ≡ any (true_literal (named s w)) ls
  unfolding any
  ended_true [] = refl
  ended_true (l ∷ ls) = ap₂ ◌||◌ (literal_true l) (ended_true ls)

  line_true : (n : ℕ) → any (true_number w) (numbers (line s (suc n))) ≡ any (true_literal (named s w)) (literals s (id_at s n))
  unfolding clause
  line_true n = ap (any (true_number w)) (numbers-line s n) ∙ ended_true (literals s (id_at s n))

  lines_out : Satisfies s w → All (HasTrue s (named s w)) (ids s)
  lines_out h = from_at (HasTrue s (named s w)) none (ids s) (λ n l. sym (line_true n) ∙ h (suc n) (omega arith) l)

  lines_in : All (HasTrue s (named s w)) (ids s) → Satisfies s w
  lines_in h zero low high = absurd (omega arith)
  lines_in h (suc n) low high = line_true n ∙ at (HasTrue s (named s w)) (ids s) n none h high

  -- `satisfied` decides it
  pub satisfied_out : satisfied s w ≡ true → Satisfies s w
  unfolding satisfied
  satisfied_out h n low high = from_out _ 1 (length (ids s)) (all_out _ (from 1 (length (ids s))) h) n low (omega arith)

  pub satisfied_in : Satisfies s w → satisfied s w ≡ true
  unfolding satisfied
  satisfied_in h = all_in _ (from 1 (length (ids s))) (from_in _ 1 (length (ids s)) (λ n low high. h n low (omega arith)))

  pub satisfies_met : Satisfies s w → Every s (Met s (named s w))
  satisfies_met h = met_every s (named s w) (lines_out h)

-- Valuations that agree on the sheet's variables make the same clauses true.
abbrev AgreeOn : Sheet → Valuation → Valuation → Type 0
AgreeOn s v u = (x : Variable) → VariableIn s x → v x ≡ u x

module _ (s : Sheet) (ok : WellFormed s) where
  module _ (v u : Valuation) (agree : AgreeOn s v u) where
    literals-agree : (ls : List Literal) → All (LiteralIn s) ls → any (true_literal v) ls ≡ any (true_literal u) ls
    unfolding any All
    literals-agree [] h = refl
    literals-agree (is x ∷ ls) h = ap₂ ◌||◌ (agree x h.0) (literals-agree ls h.1)
    literals-agree (isnt x ∷ ls) h = ap₂ ◌||◌ (ap not (agree x h.0)) (literals-agree ls h.1)

    clauses_agree : All (HasTrue s v) (ids s) → All (HasTrue s u) (ids s)
    clauses_agree h = from_at (HasTrue s u) none (ids s) (λ n l.
        sym (literals-agree (literals s (id_at s n)) (literals_in s ok (id_at s n) (at (IdIn s) (ids s) n none (ids_in s) l)))
        ∙ at (HasTrue s v) (ids s) n none h l)

  pub met_satisfies : (v : Valuation) (w : Assignment) → AgreeOn s v (named s w) → Every s (Met s v) → Satisfies s w
  met_satisfies v w agree h = lines_in s w (clauses_agree v (named s w) agree (every_met s v h))

-- Assignments that agree from 1 to the variable count.
abbrev pub Alike : Sheet → Assignment → Assignment → Type 0
Alike s w u = (n : ℕ) → 1 ≤ n → n ≤ length (variables s) → w n ≡ u n

module _ (s : Sheet) (w u : Assignment) (alike : Alike s w u) where
  alike_named : AgreeOn s (named s w) (named s u)
  alike_named x h =
      let n = number_small s x h in
      let c = variable_count_lem s in
      let p = positive s x in
      alike (number s x) (omega arith) (omega arith)

  pub satisfies_alike : WellFormed s → Satisfies s w → Satisfies s u
  satisfies_alike ok h = lines_in s u (clauses_agree s ok (named s w) (named s u) alike_named (lines_out s w h))

  pub values_alike : (f c : ℕ) → f < fields s → c < limit s f → true_values s w f c ≡ true_values s u f c
  unfolding true_values
  values_alike f c h k =
      keep_below (λ a. named s w (K f c a)) (λ a. named s u (K f c a)) (suc (blank s)) (λ a l. alike_named (K f c a) ((h, k), omega arith))

  pub held_alike : (f c : ℕ) → f < fields s → c < limit s f → held s w f c ≡ held s u f c
  held_alike f c h k = ap (λ (xs : List ℕ). get_or xs 0 (blank s)) (values_alike f c h k)

  pub spelled_alike : spelled s w ≡ spelled s u
  unfolding spelled up_to_blank
  spelled_alike =
      map_below (λ f. up_to_blank (blank s) (held s w f) 0 (limit s f)) (λ f. up_to_blank (blank s) (held s u f) 0 (limit s f)) (fields s)
      (λ f h. same_text (held s w f) (held s u f) (limit s f) 0 (λ c l. held_alike f c h (omega arith)))
    where
      same_text : (h k : ℕ → ℕ) (n c : ℕ) → ((d : ℕ) → d < c + n → h d ≡ k d) → up_to_blank (blank s) h c n ≡ up_to_blank (blank s) k c n
      same_text h k zero c e = refl
      same_text h k (suc n) c e =
          let here = e c (omega arith) in
          let others = same_text h k n (suc c) (λ d l. e d (omega arith)) in
          rw (here, others)
