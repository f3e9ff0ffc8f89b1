-- The lines of a sum's clauses, by the codes of the sum, of the least sum that follows, and of the field's first blank. Assumes nothing.
use mathlib.Core.Path.{◌≡◌, refl, sym, ap, subst, ◌∙◌}
use mathlib.Core.Bool.{Bool, true, false}
use mathlib.Core.List.{[], ◌∷◌}
use Prim.Native.Nat.{ℕ, suc, ◌+◌, ◌-◌, ◌*◌, ◌<◌, ◌≤◌}
use native.Mathlib.Nat.{mul_comm, mul_assoc}
use native.Mathlib.Omega.{arith}
use lib.Dec.{ltb}
use lib.IntN.{ℤ, pos, nat_abs, ◌+ℤ◌, ◌-ℤ◌, ◌*ℤ◌, +ℤ_idr}
use lib.ListN.{length}
use borrow.Author.Tests.{ltb-true}
use mir.Syntax.{w8, w16}
use mir.Val.{to_z, of_z}
use Rattle.model.specs.Lists.{pick, each, up_to}
use Rattle.model.specs.Sheet.{Constraint, Sheet, limit, constraint, coefficient}
use Rattle.model.specs.Range.{InRange}
use Rattle.formula.specs.Clause.{K, T, Term, yes, no, only, Add, Bound, terms, least, spread, blank, fields}
use Rattle.formula.specs.Count.{within}
use Rattle.formula.specs.Numbering.{number, SumIn, VariableIn}
use Rattle.model.proofs.Keeping.{loop_same}
use Rattle.formula.proofs.Integers.{from-least, above-least, sum_in, sum_next}
use Rattle.formula.proofs.Numbering.{number_small}
use Rattle.formula.proofs.Small.{variables-small, fields-few, limit-small, coefficient_few, least-small, spread-small}
use Rattle.dimacs.specs.Codes.{codes_line, term_code, most_code}
use Rattle.dimacs.proofs.Coded.{terms-line, same_four}
use Rattle.scan.proofs.Machine.{small_back}
use Rattle.numbering.proofs.Laws.{sum_fits}
use Rattle.literals.specs.Name.{line_of}
use Rattle.sums.specs.Lines.{sum_lines, bound_line}
use Rattle.sums.specs.Codes.{add_line, Added}

-- The number of a sum by that of the least, and of a place's value by that of the first place.
pub sum_number : (s : Sheet) (r k : ℕ) (z : ℤ)
    → number s (T r k z) ≡ number s (T r k (least s (constraint s r) k)) + nat_abs (z -ℤ least s (constraint s r) k)
unfolding number
sum_number s r k z =
    let l : ℤ = least s (constraint s r) k in
    let none : nat_abs (l -ℤ l) ≡ 0 = ap (λ w. nat_abs (w -ℤ l)) (sym (+ℤ_idr l)) ∙ above-least l 0 in
    omega arith

place-number : (s : Sheet) (f c a : ℕ) → number s (K f c a) ≡ number s (K f 0 a) + c * suc (blank s)
unfolding number
place-number s f c a = omega arith

strides : (c m : ℕ) → 2 * (c * m) ≡ 2 * m * c
strides c m = ap (λ z. 2 * z) (mul_comm c m) ∙ sym (mul_assoc 2 m c)

only_code : (s : Sheet) (b : Bool) (t : Term) (n : ℕ) → (b ≡ true → n ≡ term_code s t) → pick b n 0 ≡ term_code s (only b t)
only_code s true t n e = e refl
only_code s false t n e = refl

module _ (s : Sheet) (r k m : ℕ) where
  abbrev c : Constraint
  c = constraint s r

  abbrev sum : ℤ
  sum = least s c k +ℤ pos m

  module _ (here first stride lim b : ℕ) (low co n : ℤ)
      (at_here : here ≡ 2 * number s (T r k (least s c k)) + 2 * m + 1) (at-stride : stride ≡ 2 * suc (blank s)) (at-limit : lim ≡ limit s k)
      (at-blank : 0 < limit s k → b ≡ 2 * number s (K k 0 (blank s))) (at_first : first ≡ 2 * number s (T r (suc k) (least s c (suc k))))
      (is-low : low ≡ least s c (suc k)) (is-coefficient : co ≡ coefficient c k) (is_sum : n ≡ sum) where
    here_code : 2 * number s (T r k sum) + 1 ≡ here
    here_code = omega (arith, sum_number s r k sum, above-least (least s c k) m)

    -- the blank of place e
    blank_code : (e : ℕ) → 0 < limit s k → 2 * number s (K k e (blank s)) ≡ b + stride * e
    blank_code e h =
        let t = strides e (suc (blank s)) in
        let q = ap (λ z. z * e) at-stride in
        omega (arith, place-number s k e (blank s), at-blank h)

    shorter_code : (d : ℕ) → d ≤ limit s k → pick (ltb 0 d) (b + stride * (d - 1)) 0 ≡ term_code s (only (ltb 0 d) (yes (K k (d - 1) (blank s))))
    shorter_code d h = only_code s (ltb 0 d) (yes (K k (d - 1) (blank s))) (b + stride * (d - 1))
        (λ t. let some = ltb-true 0 d t in sym (blank_code (d - 1) (omega arith)))

    longer_code : (d : ℕ) → pick (ltb d lim) (b + stride * d + 1) 0 ≡ term_code s (only (ltb d (limit s k)) (no (K k d (blank s))))
    longer_code d =
        ap (λ z. pick (ltb d z) (b + stride * d + 1) 0) at-limit
        ∙ only_code s (ltb d (limit s k)) (no (K k d (blank s))) (b + stride * d + 1)
        (λ t. let some = ltb-true d (limit s k) t in omega (arith, blank_code d (omega arith)))

    next_code : (d : ℕ) → 2 * number s (T r (suc k) (sum +ℤ coefficient c k *ℤ pos d)) ≡ first + 2 * nat_abs (n +ℤ co *ℤ pos d -ℤ low)
    next_code d =
        rw (is-low, is-coefficient, is_sum) (omega (arith, sum_number s r (suc k) (sum +ℤ coefficient c k *ℤ pos d)))

    add_line_lem : (d : ℕ) → d ≤ limit s k → line_of s (Add r k sum d) ≡ add_line here b stride lim first low co n d
    unfolding terms add_line
    add_line_lem d h = sym (terms-line s (Add r k sum d)) ∙ same_four here_code (sym (shorter_code d h)) (sym (longer_code d)) (next_code d)

    pub sum_lines_lem : sum_lines s r k m ≡ each (up_to (suc lim)) (add_line here b stride lim first low co n)
    unfolding sum_lines
    sum_lines_lem =
        loop_same (λ d. line_of s (Add r k sum d)) (add_line here b stride lim first low co n) (suc (limit s k)) (λ d h. add_line_lem d (omega arith))
        ∙ ap (λ z. each (up_to (suc z)) (add_line here b stride lim first low co n)) (sym at-limit)

    -- the next sums are numbered
    module _ (ok : InRange s) (hr : r < length s.constraints) (hk : k < fields s) (hm : m ≤ spread s c k) (few : first ≤ most_code) where
      pub added : (d : ℕ) → d ≤ lim → Added first low co n d
      added d h =
          let inside : SumIn s c (suc k) (sum +ℤ coefficient c k *ℤ pos d) = sum_next s c k sum d (sum_in s c k m hm) (omega arith) in
          let low_sum : ℤ = least s c (suc k) in
          rw (is-low, is-coefficient, is_sum) (record {
            at_first = few;
            length_few = omega (arith, limit-small s ok k);
            coefficient_few = coefficient_few s ok r hr k;
            low_few = omega (arith, least-small s ok r hr (suc k), fields-few s ok);
            sum_few = sum_fits s ok r k hr (omega arith) sum (sum_in s c k m hm);
            above = ap (λ z. z -ℤ low_sum) inside.0 ∙ from-least low_sum (nat_abs (sum +ℤ coefficient c k *ℤ pos d -ℤ low_sum));
            offset_few = omega (arith, inside.1, spread-small s ok r hr (suc k), fields-few s ok);
          })

-- The final sums above the limit.
pub bound_codes : (s : Sheet) (r first n : ℕ) → first ≡ 2 * number s (T r (fields s) (least s (constraint s r) (fields s))) + 2 * within s (constraint s r) + 1
    → bound_line s r n ≡ codes_line ((first + 2 * n) ∷ [])
unfolding bound_line terms
bound_codes s r first n e =
    let l : ℤ = least s (constraint s r) (fields s) in
    let m : ℕ = within s (constraint s r) + n in
    let x : 2 * number s (T r (fields s) (l +ℤ pos m)) + 1 ≡ first + 2 * n = omega (arith, sum_number s r (fields s) (l +ℤ pos m), above-least l m) in
    sym (terms-line s (Bound r (l +ℤ pos m))) ∙ rw x

-- The code of the least sum of the first k fields, as the machine has it.
module _ (s : Sheet) (ok : InRange s) (r : ℕ) (hr : r < length s.constraints) (k : ℕ) (hk : k ≤ fields s) (low : ℤ) (is : low ≡ least s (constraint s r) k) where
  pub low_back : to_z w16 (of_z w16 low) ≡ least s (constraint s r) k
  low_back = rw is (small_back w16 (least s (constraint s r) k) (omega (arith, least-small s ok r hr k, fields-few s ok)))

  least_in : SumIn s (constraint s r) k (least s (constraint s r) k)
  least_in = subst (SumIn s (constraint s r) k) (+ℤ_idr (least s (constraint s r) k)) (sum_in s (constraint s r) k 0 (omega arith))

  pub low_in : VariableIn s (T r k (to_z w16 (of_z w16 low)))
  low_in = (hr, hk, rw low_back least_in)

  module _ (q : ℕ) (e : q ≡ 2 * number s (T r k (to_z w16 (of_z w16 low))) + 0) where
    pub low_code : (q ≡ 2 * number s (T r k (least s (constraint s r) k))) × (q ≤ most_code)
    low_code =
        let n = ap (λ z. number s (T r k z)) low_back in
        let is : q ≡ 2 * number s (T r k (least s (constraint s r) k)) = omega arith in
        (is, omega (arith, number_small s (T r k (least s (constraint s r) k)) (hr, hk, least_in), variables-small s ok))

-- so a coefficient
pub coefficient_back : (s : Sheet) → InRange s → (r : ℕ) → r < length s.constraints → (k : ℕ) (co : ℤ) → co ≡ coefficient (constraint s r) k
    → to_z w8 (of_z w8 co) ≡ coefficient (constraint s r) k
coefficient_back s ok r hr k co e = rw e (small_back w8 (coefficient (constraint s r) k) (omega (arith, coefficient_few s ok r hr k)))
