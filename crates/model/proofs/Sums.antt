-- A constraint's sum, field by field, and that it is small: within 4 × 8 for each field. Assumes nothing.
use mathlib.Core.Path.{◌≡◌, refl}
use Prim.Native.Nat.{ℕ, zero, suc, ◌+◌, ◌*◌, ◌<◌, ◌≤◌}
use native.Mathlib.Nat.{mul-le-mul}
use native.Mathlib.Numerals.{add-one}
use native.Mathlib.Omega.{arith}
use lib.Dec.{ltb}
use lib.IntN.{ℤ, pos, negsuc, neg_ℤ, nat_abs, sub_ℕ, ◌+ℤ◌, ◌*ℤ◌}
use lib.ListN.{length, get_or-eq_default}
use borrow.Author.Tests.{ltb-true, ltb-false}
use Rattle.model.specs.Lists.{All}
use Rattle.model.specs.Sheet.{Constraint, coefficient}
use Rattle.model.specs.Word.{Substitution, text, weight}
use Rattle.model.proofs.Lists.{by_test, at}

-- the magnitude of a sum and of a product
pub abs_neg : (n : ℕ) → nat_abs (neg_ℤ (pos n)) ≡ n
abs_neg zero = refl
abs_neg (suc n) = refl

abs_sub : (a b : ℕ) → nat_abs (sub_ℕ a b) ≤ a + b
abs_sub a b = by_test (ltb a b)
    (λ e. let h = ltb-true a b e in simp e (omega arith))
    (λ e. let h = ltb-false a b e in simp e (omega arith))

pub abs_add : (a b : ℤ) → nat_abs (a +ℤ b) ≤ nat_abs a + nat_abs b
abs_add (pos a) (pos b) = omega arith
abs_add (pos a) (negsuc b) = abs_sub a (suc b)
abs_add (negsuc a) (pos b) = let h = abs_sub b (suc a) in omega arith
abs_add (negsuc a) (negsuc b) = omega arith

abs_mul : (a b : ℤ) → nat_abs (a *ℤ b) ≡ nat_abs a * nat_abs b
abs_mul (pos a) (pos b) = refl
abs_mul (pos a) (negsuc b) = abs_neg (a * suc b)
abs_mul (negsuc a) (pos b) = abs_neg (suc a * b)
abs_mul (negsuc a) (negsuc b) = refl

-- a coefficient times a length
pub product_small : (c : ℤ) (n : ℕ) → nat_abs c ≤ 4 → n ≤ 8 → nat_abs (c *ℤ pos n) ≤ 32
product_small c n small short =
    let e = abs_mul c (pos n) in
    let h : nat_abs c * n ≤ 4 * 8 = mul-le-mul small short in
    omega arith

pub weight-more : (r : Constraint) (g : Substitution) (k : ℕ) → weight r g (k + 1) ≡ weight r g k +ℤ coefficient r k *ℤ pos (length (text g k))
unfolding weight
weight-more r g k = rw add-one

module _ (r : Constraint) (g : Substitution) (small : All (λ c. nat_abs c ≤ 4) r.coefficients) where
  pub coefficient-small : (f : ℕ) → nat_abs (coefficient r f) ≤ 4
  coefficient-small f = by_test (ltb f (length r.coefficients))
      (λ e. at (λ c. nat_abs c ≤ 4) r.coefficients f (pos 0) small (ltb-true f _ e))
      (λ e. rw (get_or-eq_default r.coefficients (pos 0) (ltb-false f _ e)) (omega arith))

  pub weight-small : (k : ℕ) → ((f : ℕ) → f < k → length (text g f) ≤ 8) → nat_abs (weight r g k) ≤ 32 * k
  unfolding weight
  weight-small zero h = omega arith
  weight-small (suc k) h =
      let before = weight-small k (λ f l. h f (omega arith)) in
      let this = product_small (coefficient r k) (length (text g k)) (coefficient-small k) (h k (omega arith)) in
      let both = abs_add (weight r g k) (coefficient r k *ℤ pos (length (text g k))) in
      omega arith
