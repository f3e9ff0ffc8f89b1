-- How small the numbers of a sheet in range are: sums, cells, variables and clauses. Assumes nothing.
use mathlib.Core.Bool.{Bool, true, false}
use mathlib.Core.List.{[]}
use Prim.Native.Nat.{ℕ, zero, suc, ◌+◌, ◌-◌, ◌*◌, ◌<◌, ◌≤◌}
use native.Mathlib.Nat.{mul-le-mul}
use native.Mathlib.Omega.{arith}
use lib.Dec.{ltb}
use lib.IntN.{ℤ, pos, negsuc, nat_abs}
use lib.ListN.{length, get_or-eq_default}
use borrow.Author.Tests.{ltb-true, ltb-false}
use Rattle.model.specs.Lists.{pick, total}
use Rattle.model.specs.Sheet.{Sheet, limit, equation, constraint, coefficient}
use Rattle.model.specs.Range.{ConstraintIn, InRange}
use Rattle.formula.specs.Clause.{lowest, least, spread, blank, fields, left_cells, right_cells}
use Rattle.formula.specs.Numbering.{k_size, s_size, row_size, t_size, k_count, s_count, t_count, variable_count}
use Rattle.formula.specs.Kind.{Kind, same_letter_twice, different_letters, letter_then_field, field_then_letter, two_fields, used_up_before_letter, used_up_before_field, both_used_up, kind_count, kind_at}
use Rattle.formula.specs.Count.{not_both_count, place_count, field_count, location_size, row_count, equation_count, step_count, constraint_count, k_clauses, s_clauses, clause_count, Section, of_fields, of_equations, of_constraints, parts, variable_counts}
use Rattle.model.proofs.Lists.{by_test, at}
use Rattle.model.proofs.Keeping.{total_const, total_grows}
use Rattle.model.proofs.Values.{cells-width}
use Rattle.model.proofs.Sums.{abs_add, product_small, coefficient-small}
use Rattle.model.proofs.Templates.{template_in}

-- A total of at most m parts, each at most as great as another, or as one number.
total_part : (n m : ℕ) (h : ℕ → ℕ) → n ≤ m → total n h ≤ total m h
total_part n m h l = total_grows n m h h l (λ i _. omega arith)

total-small : (n m b : ℕ) (h : ℕ → ℕ) → n ≤ m → ((i : ℕ) → i < n → h i ≤ b) → total n h ≤ m * b
total-small n m b h l f =
    let e = total_const m b in
    let k = total_grows n m h (λ _. b) l f in
    omega arith

-- the least product of a coefficient with a length
pub lowest-small : (c : ℤ) (n : ℕ) → nat_abs c ≤ 4 → n ≤ 8 → nat_abs (lowest c n) ≤ 32
lowest-small (pos a) n h l = omega arith
lowest-small (negsuc a) n h l = product_small (negsuc a) n h l

-- the clauses of a location
kind-few : (l : ℕ) (k : Kind) → kind_count l k ≤ l + 3
kind-few l same_letter_twice = omega arith
kind-few l different_letters = omega arith
kind-few l letter_then_field = omega arith
kind-few l field_then_letter = omega arith
kind-few l two_fields = omega arith
kind-few l used_up_before_letter = omega arith
kind-few l used_up_before_field = omega arith
kind-few l both_used_up = omega arith

one_or_none : (b : Bool) → pick b 1 0 ≤ 1
one_or_none true = omega arith
one_or_none false = omega arith

module _ (s : Sheet) (ok : InRange s) where
  pub letters-few : blank s ≤ 8
  letters-few = omega (arith, ok.counts_in.of_letters)

  pub fields-few : fields s ≤ 6
  fields-few = omega (arith, ok.counts_in.of_fields)

  pub equations-few : length s.equations ≤ 4
  equations-few = omega (arith, ok.counts_in.of_equations)

  pub constraints-few : length s.constraints ≤ 4
  constraints-few = omega (arith, ok.counts_in.of_constraints)

  pub limit-small : (f : ℕ) → limit s f ≤ 8
  limit-small f = by_test (ltb f (fields s))
      (λ e. at (λ n. n ≤ 8) s.limits f 0 ok.limits_in (ltb-true f _ e))
      (λ e. rw (get_or-eq_default s.limits 0 (ltb-false f _ e)) (omega arith))

  -- the least sum, and how many sums there are after it
  module _ (r : ℕ) (h : r < length s.constraints) where
    pub coefficient_few : (k : ℕ) → nat_abs (coefficient (constraint s r) k) ≤ 4
    coefficient_few k = coefficient-small (constraint s r) [] (at (ConstraintIn (fields s)) s.constraints r _ ok.constraints_in h).small k

    pub least-small : (k : ℕ) → nat_abs (least s (constraint s r) k) ≤ k * 32
    unfolding least
    least-small zero = omega arith
    least-small (suc k) =
        let before = least-small k in
        let this = lowest-small (coefficient (constraint s r) k) (limit s k) (coefficient_few k) (limit-small k) in
        let both = abs_add (least s (constraint s r) k) (lowest (coefficient (constraint s r) k) (limit s k)) in
        omega arith

    pub spread-small : (k : ℕ) → spread s (constraint s r) k ≤ k * 32
    unfolding spread
    spread-small zero = omega arith
    spread-small (suc k) =
        let before = spread-small k in
        let this : nat_abs (coefficient (constraint s r) k) * limit s k ≤ 4 * 8 = mul-le-mul (coefficient_few k) (limit-small k) in
        omega arith

  -- the cells of both sides
  pub cells-small : (p : ℕ) → p < length s.equations → (length (left_cells s p) ≤ 24) × (length (right_cells s p) ≤ 24)
  cells-small p h =
      let l = cells-width s (equation s p).left in
      let r = cells-width s (equation s p).right in
      (omega (arith, (template_in s ok p h 0).wide), omega (arith, (template_in s ok p h 1).wide))

  -- the variables
  pub k_small : k_count s ≤ 432
  k_small = total-small (fields s) 6 72 (k_size s) fields-few (λ f _.
      let l = letters-few in
      let n : suc (blank s) ≤ 9 = omega arith in
      let h : limit s f * suc (blank s) ≤ 8 * 9 = mul-le-mul (limit-small f) n in
      omega arith)

  s_small : s_count s ≤ 2500
  s_small = total-small (length s.equations) 4 625 (s_size s) equations-few (λ p l.
      let c = cells-small p l in
      let m : suc (length (left_cells s p)) ≤ 25 = omega (arith, c.0) in
      let n : suc (length (right_cells s p)) ≤ 25 = omega (arith, c.1) in
      let h : s_size s p ≤ 25 * 25 = mul-le-mul m n in
      omega arith)

  rows_small : (r : ℕ) → r < length s.constraints → t_size s r ≤ 679
  unfolding total
  rows_small r l = total_grows (suc (fields s)) 7 (row_size s r) (λ k. suc (k * 32)) (let f = fields-few in omega arith) (λ k _.
      let h = spread-small r l k in omega arith)

  t_small : t_count s ≤ 2716
  t_small = total-small (length s.constraints) 4 679 (t_size s) constraints-few rows_small

  -- and those before a field, an equation, a number of fields, a constraint
  k_part : (f : ℕ) → f ≤ fields s → total f (k_size s) ≤ 432
  k_part f l = let a = total_part f (fields s) (k_size s) l in let b = k_small in omega arith

  s_part : (p : ℕ) → p ≤ length s.equations → total p (s_size s) ≤ 2500
  s_part p l = let a = total_part p (length s.equations) (s_size s) l in let b = s_small in omega arith

  pub rows_part : (r k : ℕ) → r < length s.constraints → k ≤ suc (fields s) → total k (row_size s r) ≤ 679
  rows_part r k h l = let a = total_part k (suc (fields s)) (row_size s r) l in let b = rows_small r h in omega arith

  t_part : (r : ℕ) → r ≤ length s.constraints → total r (t_size s) ≤ 2716
  t_part r l = let a = total_part r (length s.constraints) (t_size s) l in let b = t_small in omega arith

  pub parts-few : (x : Section) → parts s x ≤ 6
  parts-few of_fields = fields-few
  parts-few of_equations = let n = equations-few in omega arith
  parts-few of_constraints = let n = constraints-few in omega arith

  pub variables_part : (x : Section) (n : ℕ) → n ≤ parts s x → total n (variable_counts s x) ≤ 2716
  variables_part of_fields n l = let k = k_part n l in omega arith
  variables_part of_equations n l = let k = s_part n l in omega arith
  variables_part of_constraints n l = t_part n l

  pub variables-small : variable_count s ≤ 5648
  unfolding variable_count
  variables-small = let k = k_small in let c = s_small in let t = t_small in omega arith

  -- the clauses: of a place, of a location, of a field's step
  k_clauses_small : k_clauses s ≤ 1824
  unfolding total
  k_clauses_small = total-small (fields s) 6 304 (field_count s) fields-few (λ f _.
      total-small (limit s f) 8 38 (place_count (blank s) (limit s f)) (limit-small f) (λ c _. place-few (limit s f) c))
    where
      pairs-few : not_both_count (blank s) ≤ total 9 (λ a. 8 - a)
      pairs-few =
          let l = letters-few in
          total_grows (suc (blank s)) 9 (λ a. blank s - a) (λ a. 8 - a) (omega arith) (λ a _. omega arith)

      place-few : (n c : ℕ) → place_count (blank s) n c ≤ 38
      place-few n c = let p = pairs-few in let q = one_or_none (ltb (suc c) n) in omega arith

  s_clauses_small : s_clauses s ≤ 27504
  unfolding equation_count
  s_clauses_small = total-small (length s.equations) 4 6876 (equation_count s) equations-few (λ p l.
      let c = cells-small p l in
      let m : suc (length (left_cells s p)) ≤ 25 = omega (arith, c.0) in
      let n : suc (length (right_cells s p)) ≤ 25 = omega (arith, c.1) in
      let h = total-small (suc (length (left_cells s p))) 25 275 (row_count s p) m (λ i _.
      total-small (suc (length (right_cells s p))) 25 11 (location_size s p i) n (λ j _.
      let q = kind-few (blank s) (kind_at s p i j) in
      let k = letters-few in
      omega arith)) in
      omega arith)

  t_clauses_small : total (length s.constraints) (constraint_count s) ≤ 18272
  unfolding constraint_count total
  t_clauses_small = total-small (length s.constraints) 4 4568 (constraint_count s) constraints-few (λ r l.
      let last = spread-small r l (fields s) in
      let v = fields-few in
      let h = total_grows (fields s) 6 (step_count s r) (λ k. suc (k * 32) * 9) v (λ k j.
      let a = spread-small r l k in
      let b = limit-small k in
      let m : suc (spread s (constraint s r) k) ≤ suc (k * 32) = omega arith in
      let n : suc (limit s k) ≤ 9 = omega arith in
      mul-le-mul m n) in
      omega arith)

  pub clauses_small : clause_count s ≤ 47600
  unfolding clause_count
  clauses_small = let k = k_clauses_small in let c = s_clauses_small in let t = t_clauses_small in omega arith
