-- Numbers in decimal: their figures, read back to the number, without a nought before them, and how many they are. Assumes nothing.
use mathlib.Core.Path.{◌≡◌, refl, sym, ap, subst, ◌∙◌}
use mathlib.Core.List.{List, [], ◌∷◌, ◌++◌}
use Prim.Native.Nat.{ℕ, zero, suc, ◌+◌, ◌-◌, ◌*◌, ◌/◌, ◌%◌, ◌<◌, ◌≤◌}
use native.Mathlib.Omega.{arith}
use lib.Dec.{ltb}
use lib.ListN.{length, get_or, length-append}
use borrow.Author.Tests.{lt-ltb, le-ltb, ltb-true, ltb-false}
use Rattle.model.specs.Lists.{All}
use Rattle.formula.specs.Dimacs.{digits, decimal, value_from, value_of}
use Rattle.model.proofs.Lists.{by_test, append_in}

-- As many figures as are asked for, from n on, are the same figures.
fuel : (k j n : ℕ) → n ≤ k → n ≤ j → digits k n ≡ digits j n
unfolding digits
fuel zero zero n h g = refl
fuel zero (suc j) n h g = let e : n < 10 = omega arith in simp (lt-ltb n 10 e)
fuel (suc k) zero n h g = let e : n < 10 = omega arith in simp (lt-ltb n 10 e)
fuel (suc k) (suc j) n h g = by_test (ltb n 10)
    (λ e. simp e)
    (λ e. let l : 10 ≤ n = ltb-false n 10 e in simp e (ap (λ z. z ++ ((48 + n % 10) ∷ [])) (fuel k j (n / 10) (omega arith) (omega arith))))

pub decimal_one : (n : ℕ) → n < 10 → decimal n ≡ (48 + n) ∷ []
unfolding decimal digits
decimal_one zero h = refl
decimal_one (suc n) h = simp (lt-ltb (suc n) 10 h)

pub decimal-more : (n : ℕ) → 10 ≤ n → decimal n ≡ decimal (n / 10) ++ ((48 + n % 10) ∷ [])
unfolding decimal digits
decimal-more zero h = absurd (omega arith)
decimal-more (suc n) h =
    simp (le-ltb (suc n) 10 h) (ap (λ z. z ++ ((48 + suc n % 10) ∷ [])) (fuel n (suc n / 10) (suc n / 10) (omega arith) (omega arith)))

-- What holds of one figure, and of a number with one figure more where it holds of the others, holds of every number.
module _ (P : ℕ → List ℕ → Type 0) (one : (n : ℕ) → n < 10 → P n ((48 + n) ∷ []))
    (more : (n : ℕ) (xs : List ℕ) → 10 ≤ n → P (n / 10) xs → P n (xs ++ ((48 + n % 10) ∷ []))) where
  below : (k n : ℕ) → n ≤ k → P n (decimal n)
  below zero n h = let l : n < 10 = omega arith in subst (P n) (sym (decimal_one n l)) (one n l)
  below (suc k) n h = by_test (ltb n 10)
      (λ e. let l = ltb-true n 10 e in subst (P n) (sym (decimal_one n l)) (one n l))
      (λ e. let l = ltb-false n 10 e in subst (P n) (sym (decimal-more n l)) (more n (decimal (n / 10)) l (below k (n / 10) (omega arith))))

  by_figures : (n : ℕ) → P n (decimal n)
  by_figures n = below n n (omega arith)

-- "digits"
abbrev pub Figure : ℕ → Type 0
Figure x = (48 ≤ x) × (x ≤ 57)

pub decimal-digits : (n : ℕ) → All Figure (decimal n)
unfolding All
decimal-digits = by_figures (λ n xs. All Figure xs)
    (λ n l. ((omega arith, omega arith), tt))
    (λ n xs l h. append_in Figure xs ((48 + n % 10) ∷ []) h ((omega arith, omega arith), tt))

-- the value of figures
value-append : (n : ℕ) (xs ys : List ℕ) → value_from n (xs ++ ys) ≡ value_from (value_from n xs) ys
unfolding value_from
value-append n [] ys = refl
value-append n (x ∷ xs) ys = value-append (n * 10 + (x - 48)) xs ys

pub decimal-value : (n : ℕ) → value_of (decimal n) ≡ n
unfolding value_from
decimal-value = by_figures (λ n xs. value_of xs ≡ n)
    (λ n l. omega arith)
    (λ n xs l h. value-append 0 xs ((48 + n % 10) ∷ []) ∙ (let e : value_of xs * 10 + (48 + n % 10 - 48) ≡ n = omega arith in e))

-- "the first not 0"
first-append : (xs ys : List ℕ) → 1 ≤ length xs → get_or (xs ++ ys) 0 0 ≡ get_or xs 0 0
first-append [] ys h = absurd (omega arith)
first-append (x ∷ xs) ys h = refl

pub decimal-first : (n : ℕ) → 1 ≤ n → get_or (decimal n) 0 0 ≡ 48 → ⊥
decimal-first n h = (by_figures (λ n xs. 1 ≤ n → (1 ≤ length xs) × (get_or xs 0 0 ≡ 48 → ⊥))
    (λ n l h. (omega arith, λ e. omega arith))
    (λ n xs l f h.
    let k = f (omega arith) in
    let e = length-append xs ((48 + n % 10) ∷ []) in
    let some = k.0 in
    (omega arith, λ q. k.1 (sym (first-append xs ((48 + n % 10) ∷ []) some) ∙ q)))
    n h).1

-- how many figures: one below ten, and else one more than its tenth
pub figures_one : (n : ℕ) → n < 10 → length (decimal n) ≡ 1
figures_one n h = ap length (decimal_one n h)

pub figures_more : (n : ℕ) → 10 ≤ n → length (decimal n) ≡ length (decimal (n / 10)) + 1
figures_more n h = ap length (decimal-more n h) ∙ length-append (decimal (n / 10)) ((48 + n % 10) ∷ [])

longer : (b k : ℕ) → ((n : ℕ) → n ≤ b → length (decimal n) ≤ k) → (n : ℕ) → n ≤ b * 10 + 9 → length (decimal n) ≤ k + 1
longer b k h n l = by_test (ltb n 10)
    (λ e. let m = figures_one n (ltb-true n 10 e) in omega arith)
    (λ e.
    let m = figures_more n (ltb-false n 10 e) in
    let q = h (n / 10) (omega arith) in
    omega arith)

pub decimal-short_three : (n : ℕ) → n ≤ 999 → length (decimal n) ≤ 3
decimal-short_three = longer 99 2 (longer 9 1 (λ n h. rw (decimal_one n (omega arith)) (omega arith)))

pub decimal-short_four : (n : ℕ) → n ≤ 9999 → length (decimal n) ≤ 4
decimal-short_four = longer 999 3 decimal-short_three

pub decimal-short : (n : ℕ) → n ≤ 99999 → length (decimal n) ≤ 5
decimal-short = longer 9999 4 decimal-short_four
