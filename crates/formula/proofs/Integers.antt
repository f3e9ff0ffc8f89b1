-- Whole numbers: what the sums under a constraint need. The sums of the first k fields are those from the least one on, and the next sum is
-- one of the next ones. Assumes nothing.
use mathlib.Core.Path.{◌≡◌, refl, sym, ap, ap₂, subst, ◌∙◌}
use mathlib.Core.Bool.{Bool, true, false}
use Prim.Native.Nat.{ℕ, zero, suc, ◌+◌, ◌-◌, ◌*◌, ◌<◌, ◌≤◌}
use native.Mathlib.Nat.{mul-le-mul}
use native.Mathlib.Numerals.{add-one}
use native.Mathlib.Omega.{arith}
use lib.Dec.{eqb}
use lib.IntN.{ℤ, pos, negsuc, neg_ℤ, nat_abs, ◌+ℤ◌, ◌-ℤ◌, ◌*ℤ◌, +ℤ_assoc, +ℤ_comm, +ℤ-neg_ℤ_cancel}
use borrow.Author.Tests.{eqb-true, eq-eqb, lt-ltb, le-ltb}
use Rattle.model.specs.Sheet.{Constraint, Sheet, limit, coefficient}
use Rattle.formula.specs.Clause.{lowest, least, spread, highest, greatest}
use Rattle.formula.specs.Numbering.{SumIn}
use Rattle.formula.specs.Count.{rise}
use Rattle.model.proofs.Lists.{never}

-- a test of equality
abbrev pub eq_z : ℤ → ℤ → Bool
eq_z (pos a) (pos b) = eqb a b
eq_z (pos a) (negsuc b) = false
eq_z (negsuc a) (pos b) = false
eq_z (negsuc a) (negsuc b) = eqb a b

pub eq_z_true : (a b : ℤ) → eq_z a b ≡ true → a ≡ b
eq_z_true (pos a) (pos b) e = ap pos (eqb-true a b e)
eq_z_true (pos a) (negsuc b) e = never e
eq_z_true (negsuc a) (pos b) e = never e
eq_z_true (negsuc a) (negsuc b) e = ap negsuc (eqb-true a b e)

pub eq_z_refl : (a : ℤ) → eq_z a a ≡ true
eq_z_refl (pos a) = eq-eqb a a refl
eq_z_refl (negsuc a) = eq-eqb a a refl

shuffle : (a b c d : ℤ) → (a +ℤ b) +ℤ (c +ℤ d) ≡ (a +ℤ c) +ℤ (b +ℤ d)
shuffle a b c d =
    +ℤ_assoc a b (c +ℤ d)
    ∙ ap (λ z. a +ℤ z) (sym (+ℤ_assoc b c d) ∙ ap (λ z. z +ℤ d) (+ℤ_comm b c) ∙ +ℤ_assoc c b d)
    ∙ sym (+ℤ_assoc a c (b +ℤ d))

-- −y is −x and the rest of x above y
neg_up : (x y : ℕ) → y ≤ x → neg_ℤ (pos y) ≡ neg_ℤ (pos x) +ℤ pos (x - y)
neg_up zero zero h = refl
neg_up zero (suc y) h = absurd (omega arith)
neg_up (suc x) zero h = let e : suc x - 0 ≡ suc x = omega arith in rw (e, le-ltb (suc x) (suc x) (omega arith)) (ap pos (omega arith))
neg_up (suc x) (suc y) h = rw (lt-ltb (suc x - suc y) (suc x) (omega arith)) (ap negsuc (omega arith))

-- how far coefficient × length is above the lowest that the limit allows
rise-is : (c : ℤ) (n d : ℕ) → d ≤ n → c *ℤ pos d ≡ lowest c n +ℤ pos (rise c n d)
rise-is (pos a) n d h = ap pos (omega arith)
rise-is (negsuc a) n d h = let k : suc a ≤ suc a = omega arith in neg_up (suc a * n) (suc a * d) (mul-le-mul k h)

pub rise-small : (c : ℤ) (n d : ℕ) → d ≤ n → rise c n d ≤ nat_abs c * n
rise-small (pos a) n d h = let k : a ≤ a = omega arith in mul-le-mul k h
rise-small (negsuc a) n d h = omega arith

-- the greatest that the limit allows, and the lengths at which the least and the greatest are met
highest-is : (c : ℤ) (n : ℕ) → lowest c n +ℤ pos (nat_abs c * n) ≡ highest c n
highest-is (pos a) n = ap pos (omega arith)
highest-is (negsuc a) n = let e : suc a * n - 0 ≡ suc a * n = omega arith in rw e at (sym (neg_up (suc a * n) 0 (omega arith)))

abbrev lowest_at : ℤ → ℕ → ℕ
lowest_at (pos a) n = 0
lowest_at (negsuc a) n = n

abbrev highest_at : ℤ → ℕ → ℕ
highest_at (pos a) n = n
highest_at (negsuc a) n = 0

lowest-at : (c : ℤ) (n : ℕ) → c *ℤ pos (lowest_at c n) ≡ lowest c n
lowest-at (pos a) n = ap pos (omega arith)
lowest-at (negsuc a) n = refl

highest-at : (c : ℤ) (n : ℕ) → c *ℤ pos (highest_at c n) ≡ highest c n
highest-at (pos a) n = refl
highest-at (negsuc a) n = let e : suc a * 0 ≡ 0 = omega arith in rw e

-- the sum of the first k fields, field f of length d f
unfoldable pub sum_of : Constraint → (ℕ → ℕ) → ℕ → ℤ
sum_of c d zero = pos 0
sum_of c d (suc k) = sum_of c d k +ℤ coefficient c k *ℤ pos (d k)

-- a sum's place above the least
pub from-least : (l : ℤ) (n : ℕ) → l +ℤ pos n -ℤ l ≡ pos n
from-least l n = ap (λ z. z -ℤ l) (+ℤ_comm l (pos n)) ∙ +ℤ-neg_ℤ_cancel (pos n) l

pub above-least : (l : ℤ) (n : ℕ) → nat_abs (l +ℤ pos n -ℤ l) ≡ n
above-least l n = ap nat_abs (from-least l n)

module _ (s : Sheet) (c : Constraint) where
  -- one field more
  pub least_more : (k : ℕ) → least s c (k + 1) ≡ least s c k +ℤ lowest (coefficient c k) (limit s k)
  unfolding least
  least_more k = rw add-one

  pub spread-more : (k : ℕ) → spread s c (k + 1) ≡ spread s c k + nat_abs (coefficient c k) * limit s k
  unfolding spread
  spread-more k = rw add-one

  -- the sums are the n-th ones from the least on
  pub sum_in : (k n : ℕ) → n ≤ spread s c k → SumIn s c k (least s c k +ℤ pos n)
  sum_in k n h =
      let e = above-least (least s c k) n in
      (ap (λ m. least s c k +ℤ pos m) (sym e), omega arith)

  pub sum_zero : SumIn s c 0 (pos 0)
  unfolding least
  sum_zero = (refl, omega arith)

  -- so is the sum with one field more
  pub step : (k m d : ℕ) → d ≤ limit s k
      → least s c k +ℤ pos m +ℤ coefficient c k *ℤ pos d ≡ least s c (suc k) +ℤ pos (m + rise (coefficient c k) (limit s k) d)
  unfolding least
  step k m d h =
      ap (λ z. least s c k +ℤ pos m +ℤ z) (rise-is (coefficient c k) (limit s k) d h)
      ∙ shuffle (least s c k) (pos m) (lowest (coefficient c k) (limit s k)) (pos (rise (coefficient c k) (limit s k) d))

  pub sum_next : (k : ℕ) (n : ℤ) (d : ℕ) → SumIn s c k n → d ≤ limit s k → SumIn s c (suc k) (n +ℤ coefficient c k *ℤ pos d)
  unfolding spread
  sum_next k n d h l =
      let m : ℕ = nat_abs (n -ℤ least s c k) in
      let small = rise-small (coefficient c k) (limit s k) d l in
      let before = h.1 in
      let e : least s c (suc k) +ℤ pos (m + rise (coefficient c k) (limit s k) d) ≡ n +ℤ coefficient c k *ℤ pos d =
      sym (step k m d l) ∙ ap (λ z. z +ℤ coefficient c k *ℤ pos d) (sym h.0) in
      subst (SumIn s c (suc k)) e (sum_in (suc k) (m + rise (coefficient c k) (limit s k) d) (omega arith))

  -- "from the least to the greatest": the spread is what lies between them
  pub spread-is : (k : ℕ) → least s c k +ℤ pos (spread s c k) ≡ greatest s c k
  unfolding least spread greatest
  spread-is zero = refl
  spread-is (suc k) =
      shuffle (least s c k) (lowest (coefficient c k) (limit s k)) (pos (spread s c k)) (pos (nat_abs (coefficient c k) * limit s k))
      ∙ ap₂ ◌+ℤ◌ (spread-is k) (highest-is (coefficient c k) (limit s k))

  -- "sum their limits allow": for lengths within the limits the sum is one of these, and both ends are reached
  pub sum_of_lengths : (d : ℕ → ℕ) (k : ℕ) → ((f : ℕ) → f < k → d f ≤ limit s f) → SumIn s c k (sum_of c d k)
  unfolding sum_of
  sum_of_lengths d zero h = sum_zero
  sum_of_lengths d (suc k) h = sum_next k (sum_of c d k) (d k) (sum_of_lengths d k (λ f l. h f (omega arith))) (h k (omega arith))

  pub least-reached : (k : ℕ) → sum_of c (λ f. lowest_at (coefficient c f) (limit s f)) k ≡ least s c k
  unfolding sum_of least
  least-reached zero = refl
  least-reached (suc k) = ap₂ ◌+ℤ◌ (least-reached k) (lowest-at (coefficient c k) (limit s k))

  pub greatest-reached : (k : ℕ) → sum_of c (λ f. highest_at (coefficient c f) (limit s f)) k ≡ greatest s c k
  unfolding sum_of greatest
  greatest-reached zero = refl
  greatest-reached (suc k) = ap₂ ◌+ℤ◌ (greatest-reached k) (highest-at (coefficient c k) (limit s k))
