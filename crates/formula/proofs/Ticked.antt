-- Document 02, No. 2: a location has as many clauses as its kind says, and C adds up from how many locations there are of each kind. For that, sums over
-- the kinds: `ticked` of a sum of counts is the sum of what is ticked, and one location is ticked as its kind. Assumes nothing.
use mathlib.Core.Path.{◌≡◌, refl, sym, ap, ap₂, ◌∙◌}
use Prim.Native.Nat.{ℕ, zero, suc, ◌+◌, ◌-◌, ◌*◌, ◌<◌, ◌≤◌}
use native.Mathlib.Nat.{add-mul, suc-mul, mul-suc}
use native.Mathlib.Omega.{arith}
use lib.IntN.{pos, ◌+ℤ◌}
use lib.ListN.{length}
use lib.Signed.{lt_z}
use Rattle.model.specs.Lists.{pick, keep, total}
use Rattle.model.specs.Sheet.{Sheet, limit, constraint}
use Rattle.model.specs.Range.{WellFormed}
use Rattle.formula.specs.Clause.{stays, ids, location_ids, least, spread, sums, blank, fields, left_cells, right_cells}
use Rattle.formula.specs.Kind.{Kind, same_letter_twice, different_letters, letter_then_field, field_then_letter, two_fields, used_up_before_letter, used_up_before_field, both_used_up, kind_count, kind_at, same_kind, locations_of, ticked}
use Rattle.formula.specs.Count.{not_both_count, equation_count, step_count, within, constraint_count, k_clauses, clause_count, added_up}
use Rattle.model.proofs.Keeping.{length-map-from, total_const, total-same}
use Rattle.formula.proofs.Standing.{standing-is}
use Rattle.formula.proofs.Totals.{over_limit, location_count_lem, clause_count_lem}

-- Of every location of every sheet, with any number of letters: the clauses that document 01 lists there and does not leave out.
pub location_kind : (s : Sheet) → WellFormed s → (p : ℕ) → p < length s.equations → (i j : ℕ) → i ≤ length (left_cells s p) → j ≤ length (right_cells s p)
    → length (keep (stays s) (location_ids s p (length (left_cells s p)) (length (right_cells s p)) i j)) ≡ kind_count (blank s) (kind_at s p i j)
location_kind s ok p hp i j hi hj = ap length (standing-is s ok p hp i j hi hj) ∙ location_count_lem s ok p hp i j

-- Sums over the kinds, with any number for each of them.
module _ (w : Kind → ℕ) where
  -- one location
  ticked_one : (k : Kind) → ticked (λ q. pick (same_kind q k) 1 0) w ≡ w k
  ticked_one same_letter_twice = omega arith
  ticked_one different_letters = omega arith
  ticked_one letter_then_field = omega arith
  ticked_one field_then_letter = omega arith
  ticked_one two_fields = omega arith
  ticked_one used_up_before_letter = omega arith
  ticked_one used_up_before_field = omega arith
  ticked_one both_used_up = omega arith

  -- two counts added
  ticked_both : (f g : Kind → ℕ) → ticked (λ k. f k + g k) w ≡ ticked f w + ticked g w
  ticked_both f g =
      let both : (k : Kind) → (f k + g k) * w k ≡ f k * w k + g k * w k = λ k. add-mul (f k) (g k) (w k) in
      omega (arith, both same_letter_twice, both different_letters, both letter_then_field, both field_then_letter, both two_fields, both used_up_before_letter, both used_up_before_field, both both_used_up)

  -- a sum of counts
  ticked-total : (n : ℕ) (h : ℕ → Kind → ℕ) → ticked (λ k. total n (λ i. h i k)) w ≡ total n (λ i. ticked (h i) w)
  unfolding total
  ticked-total zero h = omega arith
  ticked-total (suc n) h = ticked_both (λ k. total n (λ i. h i k)) (h n) ∙ ap (λ z. z + ticked (h n) w) (ticked-total n h)

  -- all locations of an equation
  ticked_locations : (s : Sheet) (p : ℕ)
      → ticked (locations_of s p) w ≡ total (suc (length (left_cells s p))) (λ i. total (suc (length (right_cells s p))) (λ j. w (kind_at s p i j)))
  ticked_locations s p =
      let m : ℕ = suc (length (left_cells s p)) in
      let n : ℕ = suc (length (right_cells s p)) in
      let one : ℕ → ℕ → Kind → ℕ = λ i j k. pick (same_kind k (kind_at s p i j)) 1 0 in
      ticked-total m (λ i k. total n (λ j. one i j k))
      ∙ total-same m _ (λ i. total n (λ j. w (kind_at s p i j))) (λ i _. ticked-total n (one i)
      ∙ total-same n _ (λ j. w (kind_at s p i j)) (λ j _. ticked_one (kind_at s p i j)))

-- The locations of all kinds together are all locations of an equation.
pub kinds_all : (s : Sheet) (p : ℕ) → ticked (locations_of s p) (λ k. 1) ≡ suc (length (left_cells s p)) * suc (length (right_cells s p))
kinds_all s p =
    let m : ℕ = suc (length (left_cells s p)) in
    let n : ℕ = suc (length (right_cells s p)) in
    let ones = total_const n 1 in
    let row : total n (λ j. 1) ≡ n = omega arith in
    ticked_locations (λ k. 1) s p ∙ total-same m _ (λ i. n) (λ i _. row) ∙ total_const m n

-- The clauses of an equation: the first, and those of its locations, by their kinds.
pub equation-ticked : (s : Sheet) (p : ℕ) → equation_count s p ≡ 1 + ticked (locations_of s p) (kind_count (blank s))
unfolding equation_count
equation-ticked s p = ap (λ z. 1 + z) (sym (ticked_locations (kind_count (blank s)) s p))

-- The clauses of a constraint: the first, its steps, sums times lengths, and its final sums above the limit.
module _ (s : Sheet) (r : ℕ) where
  sums-many : (k : ℕ) → length (sums s (constraint s r) k) ≡ suc (spread s (constraint s r) k)
  unfolding sums
  sums-many k = length-map-from (λ n. least s (constraint s r) k +ℤ pos n) 0 (suc (spread s (constraint s r) k))

  over_many : length (keep (lt_z (constraint s r).most) (sums s (constraint s r) (fields s)))
      ≡ suc (spread s (constraint s r) (fields s)) - within s (constraint s r)
  over_many =
      ap length (over_limit s (constraint s r))
      ∙ length-map-from (λ n. least s (constraint s r) (fields s) +ℤ pos n) (within s (constraint s r)) (suc (spread s (constraint s r) (fields s)) - within s (constraint s r))

  constraint_added : constraint_count s r
      ≡ 1 + (total (fields s) (λ k. length (sums s (constraint s r) k) * suc (limit s k))
      + length (keep (lt_z (constraint s r).most) (sums s (constraint s r) (fields s))))
  unfolding constraint_count
  constraint_added =
      ap₂ (λ x y. 1 + (x + y))
      (total-same (fields s) (step_count s r) _ (λ k _. ap (λ z. z * suc (limit s k)) (sym (sums-many k))))
      (sym over_many)

-- C, as it is added up by hand.
pub adds_up : (s : Sheet) → WellFormed s → length (ids s) ≡ added_up s
unfolding clause_count
adds_up s ok =
    clause_count_lem s ok
    ∙ ap₂ (λ x y. k_clauses s + (x + y))
    (total-same (length s.equations) (equation_count s) _ (λ p _. equation-ticked s p))
    (total-same (length s.constraints) (constraint_count s) _ (λ r _. constraint_added s r))

-- The pairs of two values, of l letters and blank, are half of l times l + 1: with one letter more each of the first values has one pair more.
pairs-more : (l n : ℕ) → n ≤ suc l → total n (λ a. suc l - a) ≡ total n (λ a. l - a) + n
unfolding total
pairs-more l zero h = refl
pairs-more l (suc n) h = let before = pairs-more l n (omega arith) in omega arith

pub pairs_twice : (l : ℕ) → 2 * not_both_count l ≡ l * suc l
unfolding total
pairs_twice zero = refl
pairs_twice (suc l) =
    let before = pairs_twice l in
    let more = pairs-more l (suc l) (omega arith) in
    let e = suc-mul l (suc (suc l)) in
    let d = mul-suc l (suc l) in
    omega arith
