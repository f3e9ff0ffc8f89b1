-- A constraint's limit less its least sum, as the code has it, and the sums that are at most the limit. Assumes nothing.
use mathlib.Core.Path.{◌≡◌, refl, sym, ap, ap₂, ◌∙◌}
use mathlib.Core.Bool.{true, false}
use Prim.Native.Nat.{ℕ, zero, suc, ◌+◌, min, ◌<◌, ◌≤◌}
use native.Mathlib.Omega.{arith}
use native.Mathlib.Numerals.{add-one}
use lib.Dec.{T, ltb}
use lib.IntN.{ℤ, pos, negsuc, nat_abs, neg_ℤ, ◌-ℤ◌}
use lib.ListN.{length}
use lib.Signed.{lt_z, non_neg, pos-nat_abs}
use borrow.Author.Tests.{ltb-true, ltb-false, lt-ltb, le-ltb}
use mir.Syntax.{w16, w32, w64}
use mir.Val.{Fits, SFits, to_z, of_z}
use mir.ValLaws.{to_z-of_z}
use Rattle.model.specs.Lists.{pick}
use Rattle.model.specs.Sheet.{Sheet, constraint}
use Rattle.model.specs.Range.{Signed16, ConstraintIn, InRange}
use Rattle.formula.specs.Clause.{fields, least, spread}
use Rattle.formula.specs.Count.{at_most, within}
use Rattle.model.proofs.Lists.{never, at, by_test}
use Rattle.model.proofs.Sums.{abs_add}
use Rattle.formula.proofs.Small.{fields-few, least-small}
use Rattle.scan.proofs.Machine.{small-fits, small_back}
use Rattle.scan.proofs.Terms.{most_back}

-- Differences of whole numbers: their magnitude; not negative, or negative, as the order says.
abs_less : (a b : ℤ) → nat_abs (a -ℤ b) ≤ nat_abs a + nat_abs b
abs_less a b = let h = abs_add a (neg_ℤ b) in let e = turned b in omega arith
  where
    turned : (z : ℤ) → nat_abs (neg_ℤ z) ≡ nat_abs z
    turned (pos zero) = refl
    turned (pos (suc n)) = refl
    turned (negsuc n) = refl

not_negative : (m l : ℤ) → lt_z m l ≡ false → T (non_neg (m -ℤ l))
not_negative (pos a) (pos zero) h = tt
not_negative (pos a) (pos (suc b)) h = simp h tt
not_negative (pos a) (negsuc b) h = tt
not_negative (negsuc a) (pos b) h = never (sym h)
not_negative (negsuc a) (negsuc b) h = let k = ltb-false b a h in simp (le-ltb (suc b) (suc a) (omega arith)) tt

negative : (m l : ℤ) (w : ℕ) → lt_z m l ≡ true → at_most (m -ℤ l) w ≡ 0
negative (pos a) (pos zero) w h = let k = ltb-true a 0 h in absurd (omega arith)
negative (pos a) (pos (suc b)) w h = simp h
negative (pos a) (negsuc b) w h = never h
negative (negsuc a) (pos zero) w h = simp (lt-ltb 0 (suc a) (omega arith))
negative (negsuc a) (pos (suc b)) w h = refl
negative (negsuc a) (negsuc b) w h = let k = ltb-true b a h in simp (lt-ltb (suc b) (suc a) (omega arith))

-- the sums that are at most a limit that is n above the least
min_is : (n w : ℕ) → min w (n + 1) ≡ at_most (pos n) w
min_is n w = by_test (ltb n w)
    (λ e. let h = ltb-true n w e in rw e (omega arith))
    (λ e. let h = ltb-false n w e in rw e (omega arith))

signed-small : (z : ℤ) → Signed16 z → nat_abs z ≤ 32768
signed-small (pos n) h = omega arith
signed-small (negsuc n) h = h

-- a number of 16 bits as it is read back, and again from 32 bits
abbrev pub read : ℤ → ℤ
read z = to_z w16 (of_z w16 z)

abbrev widened : ℤ → ℤ
widened z = to_z w32 (of_z w32 (read z))

module _ (m l : ℤ) (m_fits : SFits w16 m) (l_fits : SFits w16 l) where
  order : lt_z (read m) (read l) ≡ lt_z m l
  order = ap₂ lt_z (to_z-of_z w16 m m_fits) (to_z-of_z w16 l l_fits)

  -- the limit below the least sum
  pub none_within : (w : ℕ) → lt_z (read m) (read l) ≡ true → 0 ≡ at_most (m -ℤ l) w
  none_within w h = sym (negative m l w (sym order ∙ h))

  -- the limit not below it: the difference is a natural number
  pub some-within : (w n : ℕ) → lt_z (read m) (read l) ≡ false → n ≡ nat_abs (read m -ℤ read l) → min w (n + 1) ≡ at_most (m -ℤ l) w
  some-within w n h e =
      let is : n ≡ nat_abs (m -ℤ l) = e ∙ ap₂ (λ a b. nat_abs (a -ℤ b)) (to_z-of_z w16 m m_fits) (to_z-of_z w16 l l_fits) in
      let whole = pos-nat_abs (m -ℤ l) (not_negative m l (sym order ∙ h)) in
      min_is n w ∙ ap (λ k. at_most (pos k) w) is ∙ ap (λ z. at_most z w) whole

-- The same in 32 bits.
module _ (m l : ℤ) (limited : Signed16 m) (few : nat_abs l ≤ 192) where
  most-is : read m ≡ m
  most-is = most_back m limited

  least-is : read l ≡ l
  least-is = small_back w16 l (omega arith)

  pub most-fits : SFits w32 (read m)
  most-fits = rw most-is (small-fits w32 m (omega (arith, signed-small m limited)))

  pub least_fits : SFits w32 (read l)
  least_fits = rw least-is (small-fits w32 l (omega arith))

  abbrev pub difference : ℤ
  difference = widened m -ℤ widened l

  difference-is : difference ≡ m -ℤ l
  difference-is =
      ap₂ ◌-ℤ◌ (ap (λ z. to_z w32 (of_z w32 z)) most-is ∙ small_back w32 m (omega (arith, signed-small m limited)))
      (ap (λ z. to_z w32 (of_z w32 z)) least-is ∙ small_back w32 l (omega arith))

  difference-small : nat_abs (m -ℤ l) ≤ 32960
  difference-small = let h = abs_less m l in let k = signed-small m limited in omega arith

  pub difference-fits : SFits w32 difference
  difference-fits = rw difference-is (small-fits w32 (m -ℤ l) (omega (arith, difference-small)))

  back : to_z w32 (of_z w32 difference) ≡ m -ℤ l
  back = ap (λ z. to_z w32 (of_z w32 z)) difference-is ∙ small_back w32 (m -ℤ l) (omega (arith, difference-small))

  -- the limit not below it: the difference is a natural number
  module _ (h : lt_z (read m) (read l) ≡ false) where
    natural : T (non_neg (m -ℤ l))
    natural = not_negative m l (sym (ap₂ lt_z most-is least-is) ∙ h)

    pub difference_natural : T (non_neg (to_z w32 (of_z w32 difference))) × Fits w64 (nat_abs (to_z w32 (of_z w32 difference)))
    difference_natural = rw back (natural, record { fits = omega (arith, difference-small) })

    table : (w : ℕ) → at_most (m -ℤ l) w ≡ pick (ltb (nat_abs (to_z w32 (of_z w32 difference))) w) (suc (nat_abs (to_z w32 (of_z w32 difference)))) w
    table w = rw back (ap (λ z. at_most z w) (sym (pos-nat_abs (m -ℤ l) natural)))

    pub less-within : (w : ℕ) → nat_abs (to_z w32 (of_z w32 difference)) < w → nat_abs (to_z w32 (of_z w32 difference)) + 1 ≡ at_most (m -ℤ l) w
    less-within w k = add-one _ ∙ sym (table w ∙ ap (λ b. pick b (suc (nat_abs (to_z w32 (of_z w32 difference)))) w) (lt-ltb _ w k))

    pub all-within : (w : ℕ) → w ≤ nat_abs (to_z w32 (of_z w32 difference)) → w ≡ at_most (m -ℤ l) w
    all-within w k = sym (table w ∙ ap (λ b. pick b (suc (nat_abs (to_z w32 (of_z w32 difference)))) w) (le-ltb _ w k))

-- The limit of constraint r and its least sum, and the sums that are at most the limit.
module _ (s : Sheet) (ok : InRange s) (r : ℕ) (h : r < length s.constraints) where
  pub limit_in : (m : ℤ) → m ≡ (constraint s r).most → Signed16 m
  limit_in m e = rw e (at (ConstraintIn (fields s)) s.constraints r _ ok.constraints_in h).most_in

  pub least-few : (l : ℤ) (k : ℕ) → k ≡ fields s → l ≡ least s (constraint s r) k → nat_abs l ≤ 192
  least-few l k ek el = let few = fields-few s ok in let n = least-small s ok r h k in rw el (omega arith)

pub within-known : (s : Sheet) (r : ℕ) (m l : ℤ) (k n : ℕ) → m ≡ (constraint s r).most → k ≡ fields s → l ≡ least s (constraint s r) k
    → n ≡ spread s (constraint s r) k → at_most (m -ℤ l) (n + 1) ≡ within s (constraint s r)
unfolding within
within-known s r m l k n em ek el en =
    let w : n + 1 ≡ suc (spread s (constraint s r) (fields s)) = let e = en ∙ ap (spread s (constraint s r)) ek in omega arith in
    ap₂ at_most (ap₂ ◌-ℤ◌ em (el ∙ ap (least s (constraint s r)) ek)) w
