-- Where each clause stands among those that are not left out. Assumes nothing.
use mathlib.Core.Path.{◌≡◌, refl, sym, ap, ◌∙◌}
use mathlib.Core.List.{List, [], ◌∷◌, ◌++◌}
use Prim.Native.Nat.{ℕ, suc, ◌+◌, ◌-◌, ◌*◌, ◌<◌, ◌≤◌}
use native.Mathlib.Omega.{arith}
use lib.Dec.{ltb}
use lib.IntN.{pos, ◌+ℤ◌}
use lib.ListN.{length, get_or}
use borrow.Author.Tests.{lt-ltb}
use Rattle.model.specs.Lists.{each, up_to, when, total}
use Rattle.model.specs.Sheet.{Constraint, Sheet, limit, constraint}
use Rattle.model.specs.Range.{WellFormed}
use Rattle.formula.specs.Clause.{ClauseId, SomeValue, NotBoth, BlankTail, Start, Zero, Add, Bound, least, spread, place_ids, id_at, blank, fields, left_cells, right_cells, none, not_both_ids}
use Rattle.formula.specs.Kind.{side}
use Rattle.formula.specs.Count.{place_start, equation_start, constraint_start, standing, not_both_count, place_count, field_count, location_size, row_count, equation_count, step_count, within, constraint_count, k_clauses, s_clauses}
use Rattle.model.proofs.Keeping.{length-map-from, map-from-at, total_const, total-fits, block_at, first-at, second_at}
use Rattle.formula.proofs.Totals.{field_part, location_part, row_part, equation_part, sum_part, step_part, bound_part, constraint_part, field_parts, equation_parts, constraint_parts, ids-are, not_both_count_lem, place-count, field_count_lem, location_count_lem, row_count_lem, equation_count_lem, sum_count, step_count_lem, steps_count, constraint_count_lem, fields-count, equations-count}

module _ (s : Sheet) (ok : WellFormed s) where
  -- Each part in the whole.
  in_place : (f c n : ℕ) → f < fields s → c < limit s f → n < place_count (blank s) (limit s f) c
      → id_at s (place_start s f c + n) ≡ get_or (place_ids s f c) n none
  in_place f c n hf hc hn =
      let h : ℕ → ℕ = place_count (blank s) (limit s f) in
      let k : ℕ = total c h + n in
      let e : place_start s f c + n ≡ total f (field_count s) + k = omega arith in
      let inside : k < field_count s f = total-fits (limit s f) h c n hc hn in
      ap (λ z. id_at s z) e
      ∙ ap (λ (xs : List ClauseId). get_or xs (total f (field_count s) + k) none) (ids-are s ok)
      ∙ first-at none (field_parts s) (equation_parts s ++ constraint_parts s) (k_clauses s) (total f (field_count s) + k) (fields-count s)
      (total-fits (fields s) (field_count s) f k hf inside)
      ∙ block_at (field_part s) (fields s) (field_count s) (λ g l. field_count_lem s g) none f k hf inside
      ∙ block_at (place_ids s f) (limit s f) h (λ b l. place-count s f b) none c n hc hn

  in_equation : (p n : ℕ) → p < length s.equations → n < equation_count s p → id_at s (equation_start s p + n) ≡ get_or (equation_part s p) n none
  in_equation p n hp hn =
      let k : ℕ = total p (equation_count s) + n in
      let e : equation_start s p + n ≡ k_clauses s + k = omega arith in
      ap (λ z. id_at s z) e
      ∙ ap (λ (xs : List ClauseId). get_or xs (k_clauses s + k) none) (ids-are s ok)
      ∙ second_at none (field_parts s) (equation_parts s ++ constraint_parts s) (k_clauses s) k (fields-count s)
      ∙ first-at none (equation_parts s) (constraint_parts s) (s_clauses s) k (equations-count s ok)
      (total-fits (length s.equations) (equation_count s) p n hp hn)
      ∙ block_at (equation_part s) (length s.equations) (equation_count s) (equation_count_lem s ok) none p n hp hn

  in_constraint : (r n : ℕ) → r < length s.constraints → n < constraint_count s r
      → id_at s (constraint_start s r + n) ≡ get_or (constraint_part s r) n none
  in_constraint r n hr hn =
      let k : ℕ = total r (constraint_count s) + n in
      let e : constraint_start s r + n ≡ k_clauses s + (s_clauses s + k) = omega arith in
      ap (λ z. id_at s z) e
      ∙ ap (λ (xs : List ClauseId). get_or xs (k_clauses s + (s_clauses s + k)) none) (ids-are s ok)
      ∙ second_at none (field_parts s) (equation_parts s ++ constraint_parts s) (k_clauses s) (s_clauses s + k) (fields-count s)
      ∙ second_at none (equation_parts s) (constraint_parts s) (s_clauses s) k (equations-count s ok)
      ∙ block_at (constraint_part s) (length s.constraints) (constraint_count s) (λ q l. constraint_count_lem s q) none r n hr hn

  -- The clauses of a place.
  module _ (f c : ℕ) (hf : f < fields s) (hc : c < limit s f) where
    abbrev pairs : List ClauseId
    pairs = each (up_to (suc (blank s))) (not_both_ids s f c)

    abbrev tail : List ClauseId
    tail = when (ltb (suc c) (limit s f)) (BlankTail f c ∷ [])

    pub some_at : id_at s (place_start s f c) ≡ SomeValue f c
    unfolding place_ids
    some_at =
        let e : place_start s f c ≡ place_start s f c + 0 = omega arith in
        ap (λ z. id_at s z) e ∙ in_place f c 0 hf hc (omega arith)

    pub not_both_at : (a n : ℕ) → a ≤ blank s → n < blank s - a
        → id_at s (place_start s f c + (1 + (total a (λ a. blank s - a) + n))) ≡ NotBoth f c a (suc a + n)
    unfolding place_ids
    not_both_at a n ha hn =
        let left : ℕ → ℕ = λ a. blank s - a in
        let m : ℕ = total a left + n in
        let inside : m < not_both_count (blank s) = total-fits (suc (blank s)) left a n (omega arith) hn in
        in_place f c (1 + m) hf hc (omega arith)
        ∙ second_at none (SomeValue f c ∷ []) (pairs ++ tail) 1 m refl
        ∙ first-at none pairs tail (not_both_count (blank s)) m (not_both_count_lem s f c) inside
        ∙ block_at (not_both_ids s f c) (suc (blank s)) left (λ a h. length-map-from (NotBoth f c a) (suc a) (left a)) none a n (omega arith) hn
        ∙ map-from-at (NotBoth f c a) none (suc a) (left a) n hn

    pub tail_at : suc c < limit s f → id_at s (place_start s f c + (1 + not_both_count (blank s))) ≡ BlankTail f c
    unfolding place_ids
    tail_at h =
        let t = lt-ltb (suc c) (limit s f) h in
        let e : 1 + not_both_count (blank s) ≡ 1 + (not_both_count (blank s) + 0) = omega arith in
        in_place f c (1 + not_both_count (blank s)) hf hc (rw t (omega arith))
        ∙ ap (λ z. get_or (place_ids s f c) z none) e
        ∙ second_at none (SomeValue f c ∷ []) (pairs ++ tail) 1 (not_both_count (blank s) + 0) refl
        ∙ second_at none pairs tail (not_both_count (blank s)) 0 (not_both_count_lem s f c)
        ∙ rw t

  -- The clauses of an equation.
  module _ (p : ℕ) (hp : p < length s.equations) where
    pub start-at : id_at s (equation_start s p) ≡ Start p
    unfolding equation_count
    start-at =
        let e : equation_start s p ≡ equation_start s p + 0 = omega arith in
        ap (λ z. id_at s z) e ∙ in_equation p 0 hp (omega arith)

    pub location_at : (i j n : ℕ) → i ≤ length (left_cells s p) → j ≤ length (right_cells s p) → n < location_size s p i j
        → id_at s (equation_start s p + (1 + (total i (row_count s p) + (total j (location_size s p i) + n))))
        ≡ get_or (standing (blank s) p i j (side (left_cells s p) i) (side (right_cells s p) j)) n none
    unfolding equation_count
    location_at i j n hi hj hn =
        let rows : ℕ = suc (length (left_cells s p)) in
        let columns : ℕ = suc (length (right_cells s p)) in
        let m : ℕ = total j (location_size s p i) + n in
        let k : ℕ = total i (row_count s p) + m in
        let in_row : m < row_count s p i = total-fits columns (location_size s p i) j n (omega arith) hn in
        let inside = total-fits rows (row_count s p) i m (omega arith) in_row in
        in_equation p (1 + k) hp (omega arith)
        ∙ second_at none (Start p ∷ []) (each (up_to rows) (row_part s p)) 1 k refl
        ∙ block_at (row_part s p) rows (row_count s p) (λ i h. row_count_lem s ok p hp i) none i m (omega arith) in_row
        ∙ block_at (location_part s p i) columns (location_size s p i) (λ j h. location_count_lem s ok p hp i j) none j n (omega arith) hn

  -- The clauses of a constraint.
  module _ (r : ℕ) (hr : r < length s.constraints) where
    abbrev steps : List ClauseId
    steps = each (up_to (fields s)) (step_part s r)

    pub zero_at : id_at s (constraint_start s r) ≡ Zero r
    unfolding constraint_count
    zero_at =
        let e : constraint_start s r ≡ constraint_start s r + 0 = omega arith in
        ap (λ z. id_at s z) e ∙ in_constraint r 0 hr (omega arith)

    pub add_at : (k n d : ℕ) → k < fields s → n ≤ spread s (constraint s r) k → d ≤ limit s k
        → id_at s (constraint_start s r + (1 + (total k (step_count s r) + (n * suc (limit s k) + d))))
        ≡ Add r k (least s (constraint s r) k +ℤ pos n) d
    unfolding constraint_count
    add_at k n d hk hn hd =
        let size : ℕ → ℕ = step_count s r in
        let count : ℕ = suc (spread s (constraint s r) k) in
        let w : ℕ = suc (limit s k) in
        let m : ℕ = n * w + d in
        let one : ℕ → ClauseId = Add r k (least s (constraint s r) k +ℤ pos n) in
        let e : m ≡ total n (λ i. w) + d = ap (λ z. z + d) (sym (total_const n w)) in
        let fits = total-fits count (λ i. w) n d (omega arith) (omega arith) in
        let whole = total_const count w in
        let in_step : m < size k = omega arith in
        let inside = total-fits (fields s) size k m hk in_step in
        let z : 0 + d ≡ d = omega arith in
        in_constraint r (1 + (total k size + m)) hr (omega arith)
        ∙ second_at none (Zero r ∷ []) (steps ++ bound_part s r) 1 (total k size + m) refl
        ∙ first-at none steps (bound_part s r) (total (fields s) size) (total k size + m) (steps_count s r) inside
        ∙ block_at (step_part s r) (fields s) size (λ k h. step_count_lem s r k) none k m hk in_step
        ∙ ap (λ z. get_or (step_part s r k) z none) e
        ∙ block_at (sum_part s r k) count (λ i. w) (λ n h. sum_count s r k n) none n d (omega arith) (omega arith)
        ∙ map-from-at one none 0 w d (omega arith)
        ∙ ap one z

    pub bound_at : (n : ℕ) → n < suc (spread s (constraint s r) (fields s)) - within s (constraint s r)
        → id_at s (constraint_start s r + (1 + (total (fields s) (step_count s r) + n)))
        ≡ Bound r (least s (constraint s r) (fields s) +ℤ pos (within s (constraint s r) + n))
    unfolding constraint_count
    bound_at n hn =
        let c : Constraint = constraint s r in
        let before : ℕ = total (fields s) (step_count s r) in
        let bound : ℕ → ClauseId = λ n. Bound r (least s c (fields s) +ℤ pos n) in
        in_constraint r (1 + (before + n)) hr (omega arith)
        ∙ second_at none (Zero r ∷ []) (steps ++ bound_part s r) 1 (before + n) refl
        ∙ second_at none steps (bound_part s r) before n (steps_count s r)
        ∙ map-from-at bound none (within s c) (suc (spread s c (fields s)) - within s c) n hn
