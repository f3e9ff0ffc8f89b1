-- The clauses of a place and of a constraint as the code has them. Assumes nothing.
use mathlib.Core.Path.{◌≡◌, sym, ap, ap₂, ◌∙◌, subst}
use Prim.Native.Nat.{ℕ, suc, ◌+◌, ◌-◌, ◌*◌, ◌/◌, ◌%◌, ◌<◌, ◌≤◌}
use native.Mathlib.Nat.{suc-mul, div-add-mod', mod-lt, div-lt_iff_lt-mul}
use native.Mathlib.Omega.{arith}
use lib.Dec.{ltb, eqb}
use lib.IntN.{ℤ, pos, ◌+ℤ◌}
use lib.ListN.{length}
use borrow.Author.Tests.{ltb-true, ltb-false, eqb-true, eqb-false}
use mir.Syntax.{w16}
use mir.Val.{to_z, of_z}
use Rattle.model.specs.Lists.{total}
use Rattle.model.specs.Sheet.{Sheet, limit, constraint}
use Rattle.model.specs.Range.{InRange}
use Rattle.formula.specs.Clause.{SomeValue, NotBoth, BlankTail, Zero, Add, Bound, least, spread, id_at, blank, fields}
use Rattle.formula.specs.Count.{not_both_count, place_count, place_start, field_count, step_count, within, constraint_count, constraint_start}
use Rattle.model.proofs.Lists.{by_test}
use Rattle.model.proofs.Keeping.{total-more, total-none}
use Rattle.formula.proofs.Totals.{place-before, field-total}
use Rattle.formula.proofs.Finding.{some_at, not_both_at, tail_at, zero_at, add_at, bound_at}
use Rattle.std.specs.Prelude.{Result, Ok, Err}
use Rattle.std.specs.Result.{MatchResult}
use Rattle.literals.specs.declared.ClauseId.{ClauseId}
use Rattle.finding.specs.Sought.{Sought}
use Rattle.numbering.proofs.Laws.{number-few, read_back}
use Rattle.counting.proofs.Laws.{constraint-known}
use Rattle.model.proofs.Templates.{well_formed}
use Rattle.locating.proofs.Laws.{same_number}

-- a number by its quotient and its remainder
module _ (n d : ℕ) (some : 0 < d) where
  rest_below : n % d < d
  rest_below = mod-lt n some

  quotient_below : (m : ℕ) → n < m * d → n / d < m
  quotient_below m h = (div-lt_iff_lt-mul some).1 h

-- Number n of the clauses of field f: it belongs to place n / size, with size the clauses of a place that is not the last.
module _ (s : Sheet) (ok : InRange s) (f : ℕ) (hf : f < fields s) (n : ℕ) (hn : n < field_count s f) (l p : ℕ) (el : l ≡ blank s) (ep : p ≡ not_both_count l) where
  size_is : 2 + p ≡ 2 + not_both_count (blank s)
  size_is = ap (λ k. 2 + k) (ep ∙ ap not_both_count el)

  some-place : 0 < limit s f
  some-place = by_test (eqb (limit s f) 0)
      (λ e.
      let empty : field_count s f ≡ 0 = ap (λ k. total k (place_count (blank s) k)) (eqb-true (limit s f) 0 e) ∙ total-none (place_count (blank s) 0) in
      absurd (omega arith))
      (λ e. let k = eqb-false (limit s f) 0 e in omega arith)

  in_all : n + 1 < limit s f * (2 + p)
  in_all = let e = field-total (blank s) (limit s f) some-place in rw size_is (omega arith)

  split : n / (2 + p) * (2 + p) + n % (2 + p) ≡ n
  split = div-add-mod' n (2 + p)

  place_in : n / (2 + p) < limit s f
  place_in = quotient_below n (2 + p) (omega arith) (limit s f) (omega (arith, in_all))

  place_is : place_start s f (n / (2 + p)) + n % (2 + p) ≡ total f (field_count s) + n
  place_is =
      let e = place-before (blank s) (limit s f) (n / (2 + p)) place_in in
      let q = ap (λ k. n / (2 + p) * k) size_is in
      omega (arith, split)

  pub some-found : n % (2 + p) ≡ 0 → SomeValue f (n / (2 + p)) ≡ id_at s (total f (field_count s) + n)
  some-found z =
      same_number s _ (place_start s f (n / (2 + p))) (total f (field_count s) + n)
      (sym (some_at s (well_formed s ok) f (n / (2 + p)) hf place_in)) (omega (arith, place_is))

  module _ (more : n % (2 + p) ≡ 0 → ⊥) (a k : ℕ) (left : total a (λ a. l - a) + k ≡ n % (2 + p) - 1) where
    not_boths_are : total a (λ a. l - a) ≡ total a (λ a. blank s - a)
    not_boths_are = ap (λ m. total a (λ a. m - a)) el

    pub not_both_found : a ≤ l → k < l - a → NotBoth f (n / (2 + p)) a (a + 1 + k) ≡ id_at s (total f (field_count s) + n)
    not_both_found ha hk =
        let e : a + 1 + k ≡ suc a + k = omega arith in
        same_number s _ (place_start s f (n / (2 + p)) + (1 + (total a (λ a. blank s - a) + k))) (total f (field_count s) + n)
        (ap (NotBoth f (n / (2 + p)) a) e ∙ sym (not_both_at s (well_formed s ok) f (n / (2 + p)) hf place_in a k (omega arith) (omega arith)))
        (omega (arith, place_is, not_boths_are))

    pub tail_found : a ≡ l → BlankTail f (n / (2 + p)) ≡ id_at s (total f (field_count s) + n)
    tail_found ea =
        let c : ℕ = n / (2 + p) in
        let t = ap (λ m. total m (λ a. l - a)) ea in
        let all = total-more l (λ a. l - a) in
        let m : l + 1 ≡ suc l = omega arith in
        let pairs : not_both_count l ≡ total l (λ a. l - a) = ap (λ j. total j (λ a. l - a)) (sym m) ∙ all ∙ (omega arith) in
        let low = rest_below n (2 + p) (omega arith) in
        let last : n % (2 + p) ≡ 1 + p = omega arith in
        let inside : suc c < limit s f = by_test (ltb (suc c) (limit s f))
        (λ e. ltb-true (suc c) (limit s f) e)
        (λ e.
        let g = ltb-false (suc c) (limit s f) e in
        let is : limit s f ≡ suc c = omega (arith, place_in) in
        let w = ap (λ k. k * (2 + p)) is in
        let q = suc-mul c (2 + p) in
        absurd (omega (arith, in_all, split))) in
        same_number s _ (place_start s f c + (1 + not_both_count (blank s))) (total f (field_count s) + n)
        (sym (tail_at s (well_formed s ok) f c hf place_in inside)) (omega (arith, place_is, size_is))

-- The clauses of constraint r.
module _ (s : Sheet) (ok : InRange s) (r : ℕ) (hr : r < length s.constraints) (n : ℕ) where
  pub zero_found : n ≡ 0 → Zero r ≡ id_at s (constraint_start s r + n)
  zero_found z = same_number s (Zero r) (constraint_start s r) (constraint_start s r + n) (sym (zero_at s (well_formed s ok) r hr)) (omega arith)

  -- of field k's step, by the field's limit m, and of the final sums, by the number w of those that are not above the limit
  module _ (more : n ≡ 0 → ⊥) (k rest : ℕ) (left : total k (step_count s r) + rest ≡ n - 1) where
    module _ (hk : k < fields s) (few : rest < step_count s r k) (m : ℕ) (em : m ≡ limit s k) where
      lengths : m + 1 ≡ suc (limit s k)
      lengths = omega arith

      pub sum_below : rest / (m + 1) ≤ spread s (constraint s r) k
      sum_below =
          let e = ap (λ d. suc (spread s (constraint s r) k) * d) lengths in
          let h = quotient_below rest (m + 1) (omega arith) (suc (spread s (constraint s r) k)) (omega arith) in
          omega arith

      pub add_found : (q : ℤ) → q ≡ least s (constraint s r) k +ℤ pos (rest / (m + 1))
          → Add r k (to_z w16 (of_z w16 q)) (rest % (m + 1)) ≡ id_at s (constraint_start s r + n)
      add_found q e =
          let d = rest_below rest (m + 1) (omega arith) in
          let w = ap (λ d. rest / (m + 1) * d) lengths in
          let whole = div-add-mod' rest (m + 1) in
          ap (λ z. Add r k z (rest % (m + 1))) (read_back s ok r hr k (omega arith) (rest / (m + 1)) sum_below q e)
          ∙ sym (add_at s (well_formed s ok) r hr k (rest / (m + 1)) (rest % (m + 1)) hk sum_below (omega arith))
          ∙ ap (λ z. id_at s z) (omega arith)

    module _ (ek : k ≡ fields s) (v : ℕ) (ev : v ≡ fields s) (inside : n < constraint_count s r) (w : ℕ) (ew : w ≡ within s (constraint s r)) where
      steps : total k (step_count s r) ≡ total (fields s) (step_count s r)
      steps = ap (λ j. total j (step_count s r)) ek

      left_over : rest < suc (spread s (constraint s r) (fields s)) - within s (constraint s r)
      left_over = omega (arith, steps, constraint-known s r)

      pub bound_below : w + rest ≤ spread s (constraint s r) v
      bound_below = let e = ap (spread s (constraint s r)) ev in omega (arith, left_over)

      pub bound_small : w + rest ≤ 192
      bound_small = number-few s ok r hr v (omega arith) (w + rest) bound_below

      pub bound_found : (q : ℤ) → q ≡ least s (constraint s r) v +ℤ pos (w + rest) → Bound r (to_z w16 (of_z w16 q)) ≡ id_at s (constraint_start s r + n)
      bound_found q e =
          ap (Bound r)
          (read_back s ok r hr v (omega arith) (w + rest) bound_below q e ∙ ap₂ (λ j z. least s (constraint s r) j +ℤ pos (z + rest)) ev ew)
          ∙ sym (bound_at s (well_formed s ok) r hr rest left_over)
          ∙ ap (λ z. id_at s z) (omega (arith, steps))

-- Clauses after others: what is found among the first, and what is found past them.
module _ (s : Sheet) (start size n : ℕ) where
  pub sought_first : (more : ℕ) (q : ClauseId) → Sought s start size n (Ok q) → Sought s start (size + more) n (Ok q)
  sought_first more q h = (omega (arith, h.0), h.1)

  pub sought_later : (k more : ℕ) (r : Result ClauseId ℕ) → Sought s start size n (Err k) → Sought s (start + size) more k r → Sought s start (size + more) n r
  sought_later k more (Ok q) e h = (omega (arith, h.0), same_number s _ (start + size + k) (start + n) h.1 (omega arith))
  sought_later k more (Err j) e h = omega arith

  -- as code asks: among the first, or else, with what is left of the number, among the second
  pub sought_else : (more : ℕ) (first r : Result ClauseId ℕ) (asked : ℕ → Type 0) → Sought s start size n first → MatchResult first (λ q. r ≡ Ok q) asked
      → ((k : ℕ) → asked k → Sought s (start + size) more k r) → Sought s start (size + more) n r
  sought_else more (Ok q) r asked h m later = subst (Sought s start (size + more) n) (sym m) (sought_first more q h)
  sought_else more (Err k) r asked h m later = sought_later k more r h (later k m)
