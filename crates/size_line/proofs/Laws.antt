-- How many figures numbers have, one and several in a row; how many bytes literals in a row have, and lines. Assumes nothing.
use mathlib.Core.Path.{◌≡◌, refl, sym, ap, ◌∙◌}
use mathlib.Core.List.{List}
use Prim.Native.Nat.{ℕ, zero, suc, ◌+◌, ◌-◌, ◌*◌, ◌/◌, ◌%◌, ◌<◌, ◌≤◌}
use native.Mathlib.Nat.{mul-le-mul_left, suc-mul}
use native.Mathlib.Omega.{arith}
use lib.Dec.{leb, ltb}
use lib.ListN.{length}
use borrow.Author.Tests.{le-leb, lt-leb, leb-true, leb-false, ltb-true, ltb-false}
use Rattle.model.specs.Lists.{each, up_to, total}
use Rattle.formula.specs.Dimacs.{decimal}
use Rattle.model.proofs.Lists.{by_test}
use Rattle.model.proofs.Keeping.{total_both, total_const, length_loop}
use Rattle.formula.proofs.Figures.{figures_one, figures_more}
use Rattle.dimacs.specs.Codes.{code_size}
use Rattle.dimacs.proofs.Sizes.{code_size_lem, line_two, line_four}
use Rattle.matching.specs.Codes.{unlike_line, match_line}
use Rattle.size_line.specs.Figures.{reach, reached}

-- Figures, by the powers of ten between which a number is.
pub figures_two : (n : ℕ) → 10 ≤ n → n < 100 → length (decimal n) ≡ 2
figures_two n h l = let a = figures_more n h in let b = figures_one (n / 10) (omega arith) in omega arith

pub figures_three : (n : ℕ) → 100 ≤ n → n < 1000 → length (decimal n) ≡ 3
figures_three n h l = let a = figures_more n (omega arith) in let b = figures_two (n / 10) (omega arith) (omega arith) in omega arith

pub figures_four : (n : ℕ) → 1000 ≤ n → n < 10000 → length (decimal n) ≡ 4
figures_four n h l = let a = figures_more n (omega arith) in let b = figures_three (n / 10) (omega arith) (omega arith) in omega arith

pub figures_five : (n : ℕ) → 10000 ≤ n → n < 100000 → length (decimal n) ≡ 5
figures_five n h l = let a = figures_more n (omega arith) in let b = figures_four (n / 10) (omega arith) (omega arith) in omega arith

-- one, and one more for each power of ten that the number reaches
powers : (n : ℕ) → n < 100000 → length (decimal n) ≡ 1 + reach 10 n + reach 100 n + reach 1000 n + reach 10000 n
powers n l = by_test (ltb n 10)
    (λ t.
    let h = ltb-true n 10 t in
    rw (lt-leb 10 n h, lt-leb 100 n (omega arith), lt-leb 1000 n (omega arith), lt-leb 10000 n (omega arith)) (figures_one n h))
    (λ t.
    let h = ltb-false n 10 t in
    by_test (ltb n 100)
    (λ u.
    let k = ltb-true n 100 u in
    rw (le-leb 10 n h, lt-leb 100 n k, lt-leb 1000 n (omega arith), lt-leb 10000 n (omega arith)) (figures_two n h k))
    (λ u.
    let k = ltb-false n 100 u in
    by_test (ltb n 1000)
    (λ v.
    let j = ltb-true n 1000 v in
    rw (le-leb 10 n h, le-leb 100 n k, lt-leb 1000 n j, lt-leb 10000 n (omega arith)) (figures_three n k j))
    (λ v.
    let j = ltb-false n 1000 v in
    by_test (ltb n 10000)
    (λ w.
    let i = ltb-true n 10000 w in
    rw (le-leb 10 n h, le-leb 100 n k, le-leb 1000 n j, lt-leb 10000 n i) (figures_four n j i))
    (λ w.
    let i = ltb-false n 10000 w in
    rw (le-leb 10 n h, le-leb 100 n k, le-leb 1000 n j, le-leb 10000 n i) (figures_five n i l)))))

-- Numbers in a row: those that reach p are the last ones.
pub reached-is : (p a n : ℕ) → reached p a n ≡ n - (p - a)
unfolding total
reached-is p a zero = omega arith
reached-is p a (suc n) =
    let before = reached-is p a n in
    by_test (leb p (a + n))
    (λ t. let h = leb-true p (a + n) t in rw t (omega arith))
    (λ t. let h = leb-false p (a + n) t in rw t (omega arith))

pub figures_all : (a n : ℕ) → a + n ≤ 100000 → total n (λ k. length (decimal (a + k))) ≡ n + reached 10 a n + reached 100 a n + reached 1000 a n + reached 10000 a n
unfolding total
figures_all a zero h = refl
figures_all a (suc n) h =
    let before = figures_all a n (omega arith) in
    let this = powers (a + n) (omega arith) in
    omega arith

-- Literals in a row.
pub literals-all : (first n : ℕ) → 0 < first → total n (λ k. code_size (first + 2 * k)) ≡ n * (first % 2 + 1) + total n (λ k. length (decimal (first / 2 + k)))
unfolding total
literals-all first zero h = omega arith
literals-all first (suc n) h =
    let before = literals-all first n h in
    let this = code_size_lem (first + 2 * n) (λ e. omega arith) in
    let half : (first + 2 * n) / 2 ≡ first / 2 + n = omega arith in
    let sign : (first + 2 * n) % 2 ≡ first % 2 = omega arith in
    let same = ap (λ k. length (decimal k)) half in
    let more = suc-mul n (first % 2 + 1) in
    omega arith

-- Lines of w bytes each, and of line k so many more.
pub lines_size : (f : ℕ → List ℕ) (n w : ℕ) (g : ℕ → ℕ) → ((k : ℕ) → k < n → length (f k) ≡ w + g k) → length (each (up_to n) f) ≡ n * w + total n g
lines_size f n w g e = length_loop f n (λ k. w + g k) e ∙ sym (total_both n (λ k. w) g) ∙ ap (λ z. z + total n g) (total_const n w)

pub unlike_lines : (here x first n : ℕ) → length (each (up_to n) (unlike_line here x first)) ≡ n * (code_size (here + 1) + 2) + total n (λ k. code_size (x + 2 * first + 1 + 2 * k))
unfolding unlike_line
unlike_lines here x first n = lines_size (unlike_line here x first) n (code_size (here + 1) + 2) (λ k. code_size (x + 2 * first + 1 + 2 * k)) (λ k l.
    let e : x + 2 * (first + k) + 1 ≡ x + 2 * first + 1 + 2 * k = omega arith in
    let same = ap code_size e in
    let two = line_two (here + 1) (x + 2 * (first + k) + 1) in
    omega arith)

pub match_lines : (l here x y : ℕ)
    → length (each (up_to l) (match_line l here x y))
    ≡ l * (code_size (here + 1) + code_size (y + 2 * l) + 2) + total l (λ k. code_size (x + 1 + 2 * k)) + total l (λ k. code_size (y + 2 * k))
unfolding match_line
match_lines l here x y =
    let own : ℕ → ℕ = λ k. code_size (x + 1 + 2 * k) in
    let other : ℕ → ℕ = λ k. code_size (y + 2 * k) in
    let all = lines_size (match_line l here x y) l (code_size (here + 1) + code_size (y + 2 * l) + 2) (λ k. own k + other k) (λ k h.
    let e : x + 2 * k + 1 ≡ x + 1 + 2 * k = omega arith in
    let same = ap code_size e in
    let four = line_four (here + 1) (y + 2 * l) (x + 2 * k + 1) (y + 2 * k) in
    omega arith) in
    let both = total_both l own other in
    omega arith

-- a product is no greater than that of a greater number
pub most : (n w m : ℕ) → w ≤ m → n * w ≤ n * m
most n w m h = mul-le-mul_left n h
