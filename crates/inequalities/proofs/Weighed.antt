-- Sums of factor × length: a sum of two kinds of factors, factors of which one only is not 0, factors netted against others; and whole
-- numbers as a positive and a negative part. Assumes nothing.
use mathlib.Core.Path.{◌≡◌, refl, sym, ap, ◌∙◌}
use Prim.Native.Nat.{ℕ, zero, suc, ◌+◌, ◌-◌, ◌*◌, ◌<◌, ◌≤◌}
use native.Mathlib.Nat.{add-mul}
use native.Mathlib.Omega.{arith}
use lib.Arith.{lt_of_le-ne}
use lib.Dec.{ltb, leb, eqb}
use lib.IntN.{ℤ, pos, negsuc, neg_ℤ, sub_ℕ, ◌+ℤ◌, ◌*ℤ◌}
use lib.Signed.{le_z}
use borrow.Author.Tests.{ltb-true, ltb-false, leb-true, leb-false, le-leb, lt-leb, eqb-true, eqb-false}
use Rattle.model.specs.Lists.{pick, total}
use Rattle.model.proofs.Lists.{by_test}
use Rattle.inequalities.specs.Rows.{positive, negative}

-- two kinds of factors
pub total_sum : (n : ℕ) (x y h : ℕ → ℕ) → total n (λ f. (x f + y f) * h f) ≡ total n (λ f. x f * h f) + total n (λ f. y f * h f)
unfolding total
total_sum zero x y h = refl
total_sum (suc n) x y h =
    let before = total_sum n x y h in
    let this = add-mul (x n) (y n) (h n) in
    omega arith

-- one factor, of number k
pub total_one : (n k : ℕ) (h : ℕ → ℕ) → (k < n → total n (λ f. pick (eqb k f) 1 0 * h f) ≡ h k) × (n ≤ k → total n (λ f. pick (eqb k f) 1 0 * h f) ≡ 0)
unfolding total
total_one zero k h = ((λ l. absurd (omega arith)), (λ l. refl))
total_one (suc n) k h =
    let before = total_one n k h in
    by_test (eqb k n)
    (λ e.
    let same = eqb-true k n e in
    let none = before.1 (omega arith) in
    ((λ l. rw e (omega (arith, ap h same))), (λ l. absurd (omega arith))))
    (λ e.
    let other = eqb-false k n e in
    ((λ l. let one = before.0 (lt_of_le-ne (omega arith) other) in rw e (omega arith)), (λ l. let none = before.1 (omega arith) in rw e (omega arith))))

-- factors netted against others: what is left out on both sides is as much
net : (a b c : ℕ) → (a - b) * c + b * c ≡ (b - a) * c + a * c
net a b c = sym (add-mul (a - b) b c) ∙ ap (λ z. z * c) (omega arith) ∙ add-mul (b - a) a c

pub total_net : (n : ℕ) (x y h : ℕ → ℕ) → total n (λ f. (x f - y f) * h f) + total n (λ f. y f * h f) ≡ total n (λ f. (y f - x f) * h f) + total n (λ f. x f * h f)
unfolding total
total_net zero x y h = refl
total_net (suc n) x y h =
    let before = total_net n x y h in
    let this = net (x n) (y n) (h n) in
    omega arith

-- tests of two sides that differ from two others by the same
pub leb_net : (a b c d : ℕ) → a + d ≡ b + c → leb a b ≡ leb c d
leb_net a b c d e = by_test (leb c d)
    (λ t. let h = leb-true c d t in le-leb a b (omega arith) ∙ sym t)
    (λ t. let h = leb-false c d t in lt-leb a b (omega arith) ∙ sym t)

-- Whole numbers by parts: their order, their sums, and their products with a length.
pub order_parts : (w m : ℤ) → leb (positive w + negative m) (negative w + positive m) ≡ le_z w m
order_parts (pos a) (pos b) = leb_net (a + 0) (0 + b) a b (omega arith)
order_parts (pos a) (negsuc b) = lt-leb (a + suc b) (0 + 0) (omega arith)
order_parts (negsuc a) (pos b) = le-leb (0 + 0) (suc a + b) (omega arith)
order_parts (negsuc a) (negsuc b) = leb_net (0 + suc b) (suc a + 0) b a (omega arith)

difference-parts : (a b : ℕ) → positive (sub_ℕ a b) + b ≡ negative (sub_ℕ a b) + a
difference-parts a b = by_test (ltb a b)
    (λ e. let h = ltb-true a b e in rw e (omega arith))
    (λ e. let h = ltb-false a b e in rw e (omega arith))

pub sum_parts : (x y : ℤ) → positive (x +ℤ y) + (negative x + negative y) ≡ negative (x +ℤ y) + (positive x + positive y)
sum_parts (pos a) (pos b) = omega arith
sum_parts (pos a) (negsuc b) = let d = difference-parts a (suc b) in omega arith
sum_parts (negsuc a) (pos b) = let d = difference-parts b (suc a) in omega arith
sum_parts (negsuc a) (negsuc b) = omega arith

opposite_parts : (n : ℕ) → (positive (neg_ℤ (pos n)) ≡ 0) × (negative (neg_ℤ (pos n)) ≡ n)
opposite_parts zero = (refl, refl)
opposite_parts (suc n) = (refl, refl)

pub product_parts : (c : ℤ) (n : ℕ) → (positive (c *ℤ pos n) ≡ positive c * n) × (negative (c *ℤ pos n) ≡ negative c * n)
product_parts (pos a) n = (refl, omega arith)
product_parts (negsuc a) n = let r = opposite_parts (suc a * n) in (omega (arith, r.0), r.1)
