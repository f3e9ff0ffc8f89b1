-- The T clauses of a constraint, where the K variables read as a legal substitution. Where they are met, T is true at the sum of the first
-- k fields, so that the constraint holds; T true at these sums alone meets them, where the constraint holds. Assumes nothing.
use mathlib.Core.Path.{◌≡◌, refl, sym, ap, ap₂, subst, ◌∙◌}
use mathlib.Core.Bool.{Bool, true, false, not, ◌&&◌, ◌||◌}
use mathlib.Core.List.{List}
use Prim.Native.Nat.{ℕ, zero, suc, ◌-◌, ◌<◌, ◌≤◌}
use native.Mathlib.Omega.{arith}
use lib.Dec.{ltb}
use lib.IntN.{ℤ, pos, nat_abs, ◌+ℤ◌, ◌-ℤ◌, ◌*ℤ◌}
use lib.ListN.{length, get_or}
use lib.Signed.{lt_z, lt_z_no, lt_z_yes, clash_ℤ}
use borrow.Author.Tests.{ltb-true, ltb-false, lt-ltb, eq-eqb, ne_eqb}
use Rattle.model.specs.Lists.{any}
use Rattle.model.specs.Sheet.{Constraint, Sheet, limit, constraint, coefficient}
use Rattle.model.specs.Word.{Substitution, text, Legal, weight, ConstraintHolds}
use Rattle.formula.specs.Clause.{K, T, blank, fields, Add, Bound, terms, least, yes, no}
use Rattle.formula.specs.Numbering.{SumIn}
use Rattle.model.proofs.Lists.{never, by_test, or_left, or_else, or_other, or_last, imply, implied}
use Rattle.model.proofs.Words.{of_test}
use Rattle.model.proofs.Values.{place-letter, place-blank}
use Rattle.formula.proofs.Integers.{eq_z, eq_z_true, eq_z_refl, sum_of, sum_of_lengths}
use Rattle.formula.proofs.Named.{AtConstraint}
use Rattle.formula.proofs.Terms.{Valuation, truth, Met, Reads, truth-only}

-- The sum over the first k fields is one of those that the limits allow.
weight_sum : (c : Constraint) (g : Substitution) (k : ℕ) → weight c g k ≡ sum_of c (λ f. length (text g f)) k
unfolding weight sum_of
weight_sum c g zero = refl
weight_sum c g (suc k) = ap (λ z. z +ℤ coefficient c k *ℤ pos (length (text g k))) (weight_sum c g k)

weight_in : (s : Sheet) (g : Substitution) → Legal s g → (c : Constraint) (k : ℕ) → k ≤ fields s → SumIn s c k (weight c g k)
weight_in s g legal c k h = subst (SumIn s c k) (sym (weight_sum c g k)) (sum_of_lengths s c (λ f. length (text g f)) k (λ f l. (legal.admits f (omega arith)).no_longer))

module _ (s : Sheet) (v : Valuation) (g : Substitution) (legal : Legal s g) (reads : Reads s v g) (r : ℕ) where
  abbrev q : Constraint
  q = constraint s r

  -- "K(k,d-1,L) if d>0, not K(k,d,L) if d is below the limit"
  abbrev shorter : ℕ → ℕ → Bool
  shorter k d = ltb 0 d && v (K k (d - 1) (blank s))

  abbrev longer : ℕ → ℕ → Bool
  longer k d = ltb d (limit s k) && not (v (K k d (blank s)))

  abbrev added : ℕ → ℤ → ℕ → Bool
  added k z d = not (v (T r k z)) || (shorter k d || (longer k d || (v (T r (suc k) (z +ℤ coefficient q k *ℤ pos d)) || false)))

  add_terms : (k : ℕ) (z : ℤ) (d : ℕ) → any (truth v) (terms s (Add r k z d)) ≡ added k z d
  unfolding any terms
  add_terms k z d =
      ap₂ (λ x y. not (v (T r k z)) || (x || (y || (v (T r (suc k) (z +ℤ coefficient q k *ℤ pos d)) || false))))
      (truth-only v (ltb 0 d) (yes (K k (d - 1) (blank s)))) (truth-only v (ltb d (limit s k)) (no (K k d (blank s))))

  -- both fail at the length of the field's text, and only there
  module _ (k : ℕ) (h : k < fields s) where
    abbrev t : List ℕ
    t = text g k

    blank-at : (c : ℕ) → c < limit s k → length t ≤ c → v (K k c (blank s)) ≡ true
    blank-at c l m = reads k c (blank s) h l (omega arith) ∙ eq-eqb _ _ (place-blank (blank s) t c m)

    letter_at : (c : ℕ) → c < length t → v (K k c (blank s)) ≡ false
    letter_at c l =
        let short = (legal.admits k h).no_longer in
        let b = place-letter (blank s) t c (legal.admits k h).over_letters l in
        reads k c (blank s) h (omega arith) (omega arith) ∙ ne_eqb (get_or t c (blank s)) (blank s) (λ z. omega arith)

    not_shorter : shorter k (length t) ≡ false
    not_shorter = by_test (ltb 0 (length t))
        (λ e. let l = ltb-true 0 (length t) e in rw e (letter_at (length t - 1) (omega arith)))
        (λ e. rw e)

    not_longer : longer k (length t) ≡ false
    not_longer = by_test (ltb (length t) (limit s k))
        (λ e. rw e (ap not (blank-at (length t) (ltb-true _ _ e) (omega arith))))
        (λ e. rw e)

    only-length : (d : ℕ) → d ≤ limit s k → shorter k d ≡ false → longer k d ≡ false → d ≡ length t
    only-length d m ns nl = by_test (ltb d (length t))
        (λ e.
        let l = ltb-true d (length t) e in
        let short = (legal.admits k h).no_longer in
        let y : longer k d ≡ true = rw (lt-ltb d (limit s k) (omega arith), letter_at d l) in
        never (sym nl ∙ y))
        (λ e. by_test (ltb (length t) d)
        (λ o.
        let l = ltb-true (length t) d o in
        let y : shorter k d ≡ true = rw (lt-ltb 0 d (omega arith), blank-at (d - 1) (omega arith) (omega arith)) in
        never (sym ns ∙ y))
        (λ o. let a = ltb-false d (length t) e in let b = ltb-false (length t) d o in omega arith))

  -- what holds of the sum so far above the least holds of the sum
  at_sum : (P : ℤ → Type 0) (k : ℕ) (z : ℤ) → SumIn s q k z → P (least s q k +ℤ pos (nat_abs (z -ℤ least s q k))) → P z
  at_sum P k z i h = subst P (sym i.0) h

  -- T is true at the sums of the substitution, so the constraint holds
  sums_true : AtConstraint s (Met s v) r → (k : ℕ) → k ≤ fields s → v (T r k (weight q g k)) ≡ true
  unfolding weight terms any
  sums_true c zero h = or_last c.nought
  sums_true c (suc k) h =
      let z : ℤ = weight q g k in
      let d : ℕ = length (text g k) in
      let i = weight_in s g legal q k (omega arith) in
      let m = at_sum (λ z. Met s v (Add r k z d)) k z i (c.add k (nat_abs (z -ℤ least s q k)) d h i.1 (legal.admits k h).no_longer) in
      or_last (or_other (or_other (implied (sym (add_terms k z d) ∙ m) (sums_true c k (omega arith))) (not_shorter k h)) (not_longer k h))

  pub constraint-holds : AtConstraint s (Met s v) r → ConstraintHolds s g q
  unfolding terms any
  constraint-holds c =
      let z : ℤ = weight q g (fields s) in
      let i = weight_in s g legal q (fields s) (omega arith) in
      by_test (lt_z q.most z)
      (λ e.
      let m = at_sum (λ z. Met s v (Bound r z)) (fields s) z i (c.bound (nat_abs (z -ℤ least s q (fields s))) i.1 (subst (λ z. lt_z q.most z ≡ true) i.0 e)) in
      never (implied m (sums_true c (fields s) (omega arith))))
      (λ e. lt_z_no {a = q.most} {b = z} (of_test (not (lt_z q.most z)) (rw e)))

  -- where T is true at these sums alone, and the constraint holds, the clauses are met
  module _ (says : (k : ℕ) (z : ℤ) → v (T r k z) ≡ eq_z z (weight q g k)) where
    start_met : v (T r 0 (pos 0)) ≡ true
    unfolding weight
    start_met = says 0 (pos 0)

    add_met : (k : ℕ) (z : ℤ) (d : ℕ) → k < fields s → d ≤ limit s k → added k z d ≡ true
    unfolding weight
    add_met k z d h m = imply (v (T r k z)) (λ p. or_else (shorter k d) (λ ns. or_else (longer k d) (λ nl.
        let e : z ≡ weight q g k = eq_z_true z (weight q g k) (sym (says k z) ∙ p) in
        let f : d ≡ length (text g k) = only-length k h d m ns nl in
        or_left _ (says (suc k) _ ∙ rw (e, f) (eq_z_refl (weight q g (suc k)))))))

    bound_met : (z : ℤ) → ConstraintHolds s g q → lt_z q.most z ≡ true → (not (v (T r (fields s) z)) || false) ≡ true
    bound_met z holds over = imply (v (T r (fields s) z)) (λ p.
        let e : z ≡ weight q g (fields s) = eq_z_true z (weight q g (fields s)) (sym (says (fields s) z) ∙ p) in
        clash_ℤ (lt_z_yes (of_test (lt_z q.most (weight q g (fields s))) (subst (λ z. lt_z q.most z ≡ true) e over))) holds)

    pub constraint_met : ConstraintHolds s g q → AtConstraint s (Met s v) r
    unfolding terms any
    constraint_met holds = record {
      nought = or_left _ start_met;
      add = λ k n d h i m. add_terms k _ d ∙ add_met k _ d h m;
      bound = λ n i over. bound_met _ holds over;
    }
