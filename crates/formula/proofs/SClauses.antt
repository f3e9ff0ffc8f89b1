-- The S clauses of an equation say of its cells what `Locations` says of their values, where the K variables read as a substitution.
-- Assumes nothing.
use mathlib.Core.Path.{◌≡◌, refl, sym, ap, ap₂, ◌∙◌}
use mathlib.Core.Bool.{Bool, true, false, not, ◌&&◌, ◌||◌}
use mathlib.Core.List.{List, map}
use Prim.Native.Nat.{ℕ, suc, ◌<◌}
use native.Mathlib.Omega.{arith}
use lib.Dec.{ltb, eqb}
use lib.ListN.{length, get_or, length-map, get_or-map}
use borrow.Author.Tests.{ltb-true}
use Rattle.model.specs.Lists.{any, All}
use Rattle.model.specs.Sheet.{Sheet}
use Rattle.model.specs.Word.{Substitution}
use Rattle.model.specs.Cells.{Cell, letter, value}
use Rattle.formula.specs.Clause.{S, blank, left_cells, right_cells, cell, holds, lacks, is_blank, not_blank, only, Start, Left, Right, Both, Match, End, terms}
use Rattle.model.proofs.Lists.{or_left, or_last, at}
use Rattle.formula.proofs.Named.{AtEquation}
use Rattle.formula.proofs.Valid.{CellIn}
use Rattle.formula.proofs.Terms.{Valuation, truth, Met, Reads, truth-only, truth-holds, truth-lacks, truth-blank, truth_not_blank}
use Rattle.model.proofs.Locations.{clause_b, clause_c, clause_d, clause_e, clause_f, Locations}

and_under : (b : Bool) {x y : Bool} → (b ≡ true → x ≡ y) → (b && x) ≡ (b && y)
and_under true f = f refl
and_under false f = refl

module _ (s : Sheet) (v : Valuation) (g : Substitution) (reads : Reads s v g) where
  abbrev l : ℕ
  l = blank s

  -- the value of cell i of a side
  abbrev val : List Cell → ℕ → ℕ
  val us i = get_or (map (value l g) us) i 0

  val_is : (us : List Cell) (i : ℕ) → val us i ≡ value l g (cell us i)
  val_is us i = get_or-map (value l g) us i (letter 0)

  -- a cell's terms, by its value
  module _ (us : List Cell) (ok : All (CellIn s) us) (i : ℕ) where
    inside : i < length us → CellIn s (cell us i)
    inside h = at (CellIn s) us i (letter 0) ok h

    is-blank : i < length us → truth v (is_blank s (cell us i)) ≡ eqb (val us i) l
    is-blank h = truth-blank s v g reads (cell us i) (inside h) ∙ ap (λ z. eqb z l) (sym (val_is us i))

    not_blank_lem : i < length us → truth v (not_blank s (cell us i)) ≡ not (eqb (val us i) l)
    not_blank_lem h = truth_not_blank s v (cell us i) ∙ ap not (is-blank h)

    is-letter : (a : ℕ) → i < length us → a < l → truth v (holds (cell us i) a) ≡ eqb (val us i) a
    is-letter a h k = truth-holds s v g reads (cell us i) a (inside h) (omega arith) ∙ ap (λ z. eqb z a) (sym (val_is us i))

    not_letter : (a : ℕ) → i < length us → a < l → truth v (lacks (cell us i) a) ≡ not (eqb (val us i) a)
    not_letter a h k = truth-lacks v (cell us i) a ∙ ap not (is-letter a h k)

    if_blank : truth v (only (ltb i (length us)) (is_blank s (cell us i))) ≡ (ltb i (length (map (value l g) us)) && eqb (val us i) l)
    if_blank =
        rw (length-map us (value l g))
        (truth-only v (ltb i (length us)) (is_blank s (cell us i)) ∙ and_under (ltb i (length us)) (λ t. is-blank (ltb-true i (length us) t)))

  module _ (p : ℕ) (left : All (CellIn s) (left_cells s p)) (right : All (CellIn s) (right_cells s p)) where
    abbrev us : List Cell
    us = left_cells s p

    abbrev ws : List Cell
    ws = right_cells s p

    abbrev xs : List ℕ
    xs = map (value l g) us

    abbrev ys : List ℕ
    ys = map (value l g) ws

    abbrev St : ℕ → ℕ → Bool
    St i j = v (S p i j)

    -- each clause, by the values
    at-start : any (truth v) (terms s (Start p)) ≡ (St 0 0 || false)
    unfolding any terms
    at-start = refl

    at_b : (i j : ℕ) → i < length us → any (truth v) (terms s (Left p i j)) ≡ clause_b l xs ys St i j
    unfolding any terms
    at_b i j a = ap (λ z. not (St i j) || (z || (St (suc i) j || false))) (not_blank_lem us left i a)

    at_c : (i j : ℕ) → j < length ws → any (truth v) (terms s (Right p i j)) ≡ clause_c l xs ys St i j
    unfolding any terms
    at_c i j b = ap₂ (λ y z. not (St i j) || (y || (z || (St i (suc j) || false)))) (if_blank us left i) (not_blank_lem ws right j b)

    at_d : (i j : ℕ) → i < length us → j < length ws → any (truth v) (terms s (Both p i j)) ≡ clause_d l xs ys St i j
    unfolding any terms
    at_d i j a b = ap₂ (λ y z. not (St i j) || (y || (z || (St (suc i) (suc j) || false)))) (is-blank us left i a) (is-blank ws right j b)

    at_e : (i j x : ℕ) → i < length us → j < length ws → x < l → any (truth v) (terms s (Match p i j x)) ≡ clause_e l xs ys St i j x
    unfolding any terms
    at_e i j x a b k =
        ap₂ (λ y z. not (St i j) || (y || (z || (truth v (holds (cell ws j) x) || false)))) (is-blank ws right j b) (not_letter us left i x a k)
        ∙ ap (λ z. not (St i j) || (eqb (val ws j) l || (not (eqb (val us i) x) || (z || false)))) (is-letter ws right j x b k)

    at_f : (i j : ℕ) → any (truth v) (terms s (End p i j)) ≡ clause_f l xs ys St i j
    unfolding any terms
    at_f i j = ap₂ (λ y z. not (St i j) || (y || (z || false))) (if_blank ws right j) (if_blank us left i)

    -- so the clauses are met exactly where `Locations` holds
    pub met_locations : AtEquation s (Met s v) p (length us) (length ws) → Locations l xs ys St
    met_locations h =
        let m = length-map us (value l g) in
        let n = length-map ws (value l g) in
        record {
          first = or_last (sym at-start ∙ h.start);
          b = λ i j a b. sym (at_b i j (omega arith)) ∙ h.go_left i j (omega arith) (omega arith);
          c = λ i j a b. sym (at_c i j (omega arith)) ∙ h.go_right i j (omega arith) (omega arith);
          d = λ i j a b. sym (at_d i j (omega arith) (omega arith)) ∙ h.go_both i j (omega arith) (omega arith);
          e = λ i j x a b k. sym (at_e i j x (omega arith) (omega arith) k) ∙ h.matching i j x (omega arith) (omega arith) k;
          f_left = λ j b. sym (at_f (length xs) j) ∙ rw m (h.left_used j (omega arith));
          f_right = λ i a. sym (at_f i (length ys)) ∙ rw n (h.right_used i (omega arith));
        }

    pub locations_met : Locations l xs ys St → AtEquation s (Met s v) p (length us) (length ws)
    locations_met w =
        let m = length-map us (value l g) in
        let n = length-map ws (value l g) in
        record {
          start = at-start ∙ or_left _ w.first;
          go_left = λ i j a b. at_b i j a ∙ w.b i j (omega arith) (omega arith);
          go_right = λ i j a b. at_c i j b ∙ w.c i j (omega arith) (omega arith);
          go_both = λ i j a b. at_d i j a b ∙ w.d i j (omega arith) (omega arith);
          matching = λ i j x a b k. at_e i j x a b k ∙ w.e i j x (omega arith) (omega arith) k;
          left_used = λ j b. rw (← m) (at_f (length xs) j ∙ w.f_left j (omega arith));
          right_used = λ i a. rw (← n) (at_f i (length ys) ∙ w.f_right i (omega arith));
        }
