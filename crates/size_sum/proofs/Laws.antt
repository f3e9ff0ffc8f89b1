-- How many bytes the lines of a constraint have: those of a step by the length of its field, with all its sums at once. Assumes nothing.
use mathlib.Core.Path.{◌≡◌, refl, sym, ap, ◌∙◌}
use mathlib.Core.Bool.{Bool, true, false}
use mathlib.Core.List.{List, ◌++◌}
use Prim.Native.Nat.{ℕ, suc, ◌+◌, ◌-◌, ◌*◌, ◌<◌, ◌≤◌}
use native.Mathlib.Nat.{mul-le-mul}
use native.Mathlib.Omega.{arith}
use lib.Dec.{ltb}
use lib.IntN.{ℤ, pos, negsuc, nat_abs, ◌+ℤ◌, ◌-ℤ◌, ◌*ℤ◌}
use lib.ListN.{length, length-append}
use lib.Signed.{lt_z}
use borrow.Author.Tests.{ltb-true}
use Rattle.model.specs.Lists.{each, up_to, total}
use Rattle.model.specs.Sheet.{Sheet, Constraint, limit, constraint, coefficient}
use Rattle.model.specs.Range.{InRange}
use Rattle.formula.specs.Clause.{K, T, Term, yes, no, only, Zero, Add, terms, least, spread, blank, fields}
use Rattle.formula.specs.Count.{within, rise}
use Rattle.formula.specs.Numbering.{number}
use Rattle.model.proofs.Lists.{never}
use Rattle.model.proofs.Keeping.{total_both, total_const, total-same, total_swap, length_loop}
use Rattle.formula.proofs.Integers.{above-least, step, rise-small}
use Rattle.formula.proofs.Numbering.{number_small}
use Rattle.formula.proofs.Small.{variables-small}
use Rattle.dimacs.specs.Codes.{code_size, term_code, most_code}
use Rattle.dimacs.proofs.Coded.{terms-line}
use Rattle.dimacs.proofs.Sizes.{line_one, line_four}
use Rattle.literals.specs.Name.{line_of}
use Rattle.sums.specs.Lines.{sum_lines, step_lines, bound_line, bound_lines, constraint_lines}
use Rattle.sums.proofs.Summed.{sum_number, bound_codes, low_back, low_code}
use Rattle.size_line.proofs.Laws.{lines_size}

-- A coefficient's sign, and how far a sum is above the least.
pub rise-negative : (c : ℤ) (n d : ℕ) → lt_z c (pos 0) ≡ true → rise c n d ≡ nat_abs c * n - nat_abs c * d
rise-negative (pos a) n d h = let k = ltb-true a 0 h in absurd (omega arith)
rise-negative (negsuc a) n d h = refl

pub rise_other : (c : ℤ) (n d : ℕ) → lt_z c (pos 0) ≡ false → rise c n d ≡ nat_abs c * d
rise_other (pos a) n d h = refl
rise_other (negsuc a) n d h = never (sym h)

pub rise-few : (c : ℤ) (n d : ℕ) → nat_abs c ≤ 4 → n ≤ 8 → d ≤ n → rise c n d ≤ 32
rise-few c n d hc hn hd = let a = rise-small c n d hd in let b = mul-le-mul hc hn in omega arith

-- a product of a coefficient and a length
pub product_few : (a n : ℕ) → a ≤ 4 → n ≤ 8 → a * n ≤ 32
product_few a n h k = let b = mul-le-mul h k in omega arith

module _ (s : Sheet) (r k : ℕ) where
  abbrev rule : Constraint
  rule = constraint s r

  abbrev low : ℤ
  low = least s rule k

  -- the codes of the first sum, and of the least one that follows
  abbrev here : ℕ
  here = 2 * number s (T r k low)

  abbrev next : ℕ
  next = 2 * number s (T r (suc k) (least s rule (suc k)))

  abbrev above : ℕ → ℕ
  above d = rise (coefficient rule k) (limit s k) d

  here_code : (m : ℕ) → 2 * number s (T r k (low +ℤ pos m)) + 1 ≡ here + 1 + 2 * m
  here_code m = omega (arith, sum_number s r k (low +ℤ pos m), above-least low m)

  next_code : (m d : ℕ) → d ≤ limit s k → 2 * number s (T r (suc k) (low +ℤ pos m +ℤ coefficient rule k *ℤ pos d)) ≡ next + 2 * above d + 2 * m
  next_code m d h =
      let l : ℤ = least s rule (suc k) in
      let sum : ℤ = low +ℤ pos m +ℤ coefficient rule k *ℤ pos d in
      let e : nat_abs (sum -ℤ l) ≡ m + above d = ap (λ z. nat_abs (z -ℤ l)) (step s rule k m d h) ∙ above-least l (m + above d) in
      omega (arith, sum_number s r (suc k) sum)

  -- the field is shorter than d, or longer
  abbrev short : ℕ → ℕ
  short d = term_code s (only (ltb 0 d) (yes (K k (d - 1) (blank s))))

  abbrev long : ℕ → ℕ
  long d = term_code s (only (ltb d (limit s k)) (no (K k d (blank s))))

  add_size : (m d : ℕ) → d ≤ limit s k
      → length (line_of s (Add r k (low +ℤ pos m) d)) ≡ code_size (here + 1 + 2 * m) + (code_size (short d) + code_size (long d) + 2) + code_size (next + 2 * above d + 2 * m)
  unfolding terms
  add_size m d h =
      let sum : ℤ = low +ℤ pos m in
      let line = ap length (sym (terms-line s (Add r k sum d))) in
      let four = line_four (2 * number s (T r k sum) + 1) (short d) (long d) (2 * number s (T r (suc k) (sum +ℤ coefficient rule k *ℤ pos d))) in
      omega (arith, ap code_size (here_code m), ap code_size (next_code m d h))

  -- all lines with one length
  abbrev line_at : ℕ → ℕ → List ℕ
  line_at m d = line_of s (Add r k (low +ℤ pos m) d)

  pub length-lines : (n d : ℕ) → d ≤ limit s k
      → total n (λ m. length (line_at m d))
      ≡ total n (λ m. code_size (here + 1 + 2 * m)) + n * (code_size (short d) + code_size (long d) + 2) + total n (λ m. code_size (next + 2 * above d + 2 * m))
  length-lines n d h =
      let own : ℕ → ℕ = λ m. code_size (here + 1 + 2 * m) in
      let w : ℕ = code_size (short d) + code_size (long d) + 2 in
      let other : ℕ → ℕ = λ m. code_size (next + 2 * above d + 2 * m) in
      total-same n (λ m. length (line_at m d)) (λ m. own m + w + other m) (λ m l. add_size m d h)
      ∙ sym (total_both n (λ m. own m + w) other)
      ∙ ap (λ z. z + total n other) (sym (total_both n own (λ m. w)) ∙ ap (λ z. total n own + z) (total_const n w))

  -- a step, by the lengths
  pub step_lines_lem : length (step_lines s r k) ≡ total (suc (limit s k)) (λ d. total (suc (spread s rule k)) (λ m. length (line_at m d)))
  unfolding step_lines sum_lines
  step_lines_lem =
      length_loop (sum_lines s r k) (suc (spread s rule k)) (λ m. total (suc (limit s k)) (λ d. length (line_at m d)))
      (λ m l. length_loop (line_at m) (suc (limit s k)) (λ d. length (line_at m d)) (λ d j. refl))
      ∙ total_swap (suc (spread s rule k)) (suc (limit s k)) (λ m d. length (line_at m d))

  -- these literals are of few figures
  module _ (ok : InRange s) (hk : k < fields s) where
    only-few : (b : Bool) (t : Term) → (b ≡ true → term_code s t ≤ most_code + 1) → term_code s (only b t) ≤ most_code + 1
    only-few true t h = h refl
    only-few false t h = omega arith

    pub short-few : (d : ℕ) → d ≤ limit s k → short d ≤ most_code + 1
    short-few d h = only-few (ltb 0 d) (yes (K k (d - 1) (blank s))) (λ t.
        let some = ltb-true 0 d t in
        omega (arith, number_small s (K k (d - 1) (blank s)) ((hk, omega arith), omega arith), variables-small s ok))

    pub long-few : (d : ℕ) → long d ≤ most_code + 1
    long-few d = only-few (ltb d (limit s k)) (no (K k d (blank s))) (λ t.
        omega (arith, number_small s (K k d (blank s)) ((hk, ltb-true d (limit s k) t), omega arith), variables-small s ok))

-- The code of the least sum of the first k fields.
pub least-few : (s : Sheet) (ok : InRange s) (r : ℕ) → r < length s.constraints → (k : ℕ) → k ≤ fields s → 2 * number s (T r k (least s (constraint s r) k)) ≤ most_code
least-few s ok r hr k hk =
    let z = low_code s ok r hr k hk (least s (constraint s r) k) refl _ refl in
    let back = ap (λ l. number s (T r k l)) (low_back s ok r hr k hk (least s (constraint s r) k) refl) in
    omega (arith, z)

-- The final sums above the limit, and a constraint.
pub bound_lines_lem : (s : Sheet) (r first n : ℕ) → first ≡ 2 * number s (T r (fields s) (least s (constraint s r) (fields s))) + 2 * within s (constraint s r) + 1
    → n ≡ suc (spread s (constraint s r) (fields s)) - within s (constraint s r)
    → length (bound_lines s r) ≡ n * 2 + total n (λ k. code_size (first + 2 * k))
unfolding bound_lines
bound_lines_lem s r first n e en =
    ap (λ m. length (each (up_to m) (bound_line s r))) (sym en)
    ∙ lines_size (bound_line s r) n 2 (λ k. code_size (first + 2 * k)) (λ k l.
    let line = ap length (bound_codes s r first k e) in
    omega (arith, line_one (first + 2 * k)))

pub constraint-lines : (s : Sheet) (r : ℕ)
    → length (constraint_lines s r) ≡ code_size (2 * number s (T r 0 (pos 0))) + 2 + length (each (up_to (fields s)) (step_lines s r)) + length (bound_lines s r)
unfolding constraint_lines terms
constraint-lines s r =
    let zero = ap length (sym (terms-line s (Zero r))) in
    let a = length-append (line_of s (Zero r)) (each (up_to (fields s)) (step_lines s r) ++ bound_lines s r) in
    let b = length-append (each (up_to (fields s)) (step_lines s r)) (bound_lines s r) in
    omega (arith, line_one (2 * number s (T r 0 (pos 0))))
