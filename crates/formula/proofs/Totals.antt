-- The clauses that are not left out, part by part, and how many they are: the counts of specs/Count. Assumes nothing.
use mathlib.Core.Path.{◌≡◌, refl, sym, ap, ap₂, ◌∙◌}
use mathlib.Core.Bool.{Bool, true, false, not}
use mathlib.Core.List.{List, [], ◌∷◌, ◌++◌, map}
use Prim.Native.Nat.{ℕ, zero, suc, ◌+◌, ◌-◌, ◌*◌, ◌<◌, ◌≤◌}
use native.Mathlib.Nat.{suc-mul}
use native.Mathlib.Omega.{arith}
use lib.Dec.{ltb}
use lib.IntN.{ℤ, pos, negsuc, neg_ℤ, suc_ℤ, pred_ℤ, ◌+ℤ◌, ◌-ℤ◌, suc-pred, +ℤ_idr, +ℤ_assoc, +ℤ_comm, +ℤ_one, -ℤ_one, -ℤ-+ℤ_cancel, ℤ_ind}
use lib.ListN.{length, length-append}
use lib.Signed.{lt_z}
use borrow.Author.Tests.{ltb-true, ltb-false, lt-ltb, le-ltb}
use Rattle.model.specs.Lists.{pick, each, from, up_to, any, when, keep, total}
use Rattle.model.specs.Sheet.{Constraint, Sheet, limit, constraint}
use Rattle.model.specs.Range.{WellFormed}
use Rattle.formula.specs.Clause.{K, Literal, is, isnt, unknown, ClauseId, SomeValue, NotBoth, BlankTail, Start, Zero, Add, Bound, terms, sure, left_out, least, spread, sums, place_ids, location_ids, equation_ids, constraint_ids, listed, stays, ids, blank, fields, left_cells, right_cells, not_both_ids, add_ids}
use Rattle.formula.specs.Kind.{side}
use Rattle.formula.specs.Count.{standing, not_both_count, place_count, field_count, location_size, row_count, equation_count, step_count, at_most, within, constraint_count, k_clauses, s_clauses, clause_count}
use Rattle.model.proofs.Lists.{by_test, append_in}
use Rattle.model.proofs.Keeping.{one_in, map-from_in, loop_in, map-map, each_map, each-when, length-map-from, keep_append, keep-map, keep-yes, keep_below, keep_all, keep-above, keep_loop, loop_same, total_const, total-same, length_loop}
use Rattle.formula.proofs.Named.{place_in}
use Rattle.formula.proofs.Standing.{sides_in, sure-only, standing-is, standing-count}

-- The order of whole numbers is kept when the same is added to both.
test_suc : (a b : ℕ) → ltb (suc a) (suc b) ≡ ltb a b
test_suc a b = by_test (ltb a b)
    (λ e. let h = ltb-true a b e in lt-ltb (suc a) (suc b) (omega arith) ∙ sym e)
    (λ e. let h = ltb-false a b e in le-ltb (suc a) (suc b) (omega arith) ∙ sym e)

lt_z_suc : (a b : ℤ) → lt_z (suc_ℤ a) (suc_ℤ b) ≡ lt_z a b
lt_z_suc (pos a) (pos b) = test_suc a b
lt_z_suc (pos a) (negsuc zero) = le-ltb (suc a) 0 (omega arith)
lt_z_suc (pos a) (negsuc (suc b)) = refl
lt_z_suc (negsuc zero) (pos b) = lt-ltb 0 (suc b) (omega arith)
lt_z_suc (negsuc (suc a)) (pos b) = refl
lt_z_suc (negsuc zero) (negsuc zero) = refl
lt_z_suc (negsuc zero) (negsuc (suc b)) = sym (le-ltb (suc b) 0 (omega arith))
lt_z_suc (negsuc (suc a)) (negsuc zero) = sym (lt-ltb 0 (suc a) (omega arith))
lt_z_suc (negsuc (suc a)) (negsuc (suc b)) = sym (test_suc b a)

lt_z_pred : (a b : ℤ) → lt_z (pred_ℤ a) (pred_ℤ b) ≡ lt_z a b
lt_z_pred a b = sym (lt_z_suc (pred_ℤ a) (pred_ℤ b)) ∙ ap₂ lt_z (suc-pred a) (suc-pred b)

lt_z_add : (l a b : ℤ) → lt_z (a +ℤ l) (b +ℤ l) ≡ lt_z a b
lt_z_add l a b = ℤ_ind (λ l. lt_z (a +ℤ l) (b +ℤ l) ≡ lt_z a b)
    (ap₂ lt_z (+ℤ_idr a) (+ℤ_idr b))
    (λ n h. ap₂ lt_z (more a (pos n)) (more b (pos n)) ∙ lt_z_suc (a +ℤ pos n) (b +ℤ pos n) ∙ h)
    (λ n h. ap₂ lt_z (fewer a (neg_ℤ (pos n))) (fewer b (neg_ℤ (pos n))) ∙ lt_z_pred (a +ℤ neg_ℤ (pos n)) (b +ℤ neg_ℤ (pos n)) ∙ h)
    l
  where
    more : (a l : ℤ) → a +ℤ (l +ℤ pos 1) ≡ suc_ℤ (a +ℤ l)
    more a l = sym (+ℤ_assoc a l (pos 1)) ∙ +ℤ_one (a +ℤ l)

    fewer : (a l : ℤ) → a +ℤ (l +ℤ neg_ℤ (pos 1)) ≡ pred_ℤ (a +ℤ l)
    fewer a l = sym (+ℤ_assoc a l (neg_ℤ (pos 1))) ∙ -ℤ_one (a +ℤ l)

-- whether the n-th number from l on is above m
above : (m l : ℤ) (n : ℕ) → lt_z m (l +ℤ pos n) ≡ lt_z (m -ℤ l) (pos n)
above m l n = ap₂ lt_z (sym (-ℤ-+ℤ_cancel m l)) (+ℤ_comm l (pos n)) ∙ lt_z_add l (m -ℤ l) (pos n)

-- The first `at_most` of w numbers are at most z, and the others are above it.
at_most_lem : (z : ℤ) (w : ℕ) → at_most z w ≤ w
at_most_lem (pos d) w = by_test (ltb d w) (λ e. rw e (ltb-true d w e)) (λ e. rw e (omega arith))
at_most_lem (negsuc d) w = omega arith

at-most_low : (z : ℤ) (w n : ℕ) → n < at_most z w → lt_z z (pos n) ≡ false
at-most_low (pos d) w n h = by_test (ltb d w)
    (λ e. let k : n < suc d = rw e at h in le-ltb d n (omega arith))
    (λ e. let k : n < w = rw e at h in let l = ltb-false d w e in le-ltb d n (omega arith))
at-most_low (negsuc d) w n h = absurd (omega arith)

at-most_high : (z : ℤ) (w n : ℕ) → at_most z w ≤ n → n < w → lt_z z (pos n) ≡ true
at-most_high (pos d) w n h l = by_test (ltb d w)
    (λ e. let k : suc d ≤ n = rw e at h in lt-ltb d n (omega arith))
    (λ e. let k : w ≤ n = rw e at h in absurd (omega arith))
at-most_high (negsuc d) w n h l = refl

module _ (s : Sheet) (c : Constraint) where
  pub within_le : within s c ≤ suc (spread s c (fields s))
  unfolding within
  within_le = at_most_lem (c.most -ℤ least s c (fields s)) (suc (spread s c (fields s)))

  -- The final sums above the limit.
  pub over_limit : keep (lt_z c.most) (sums s c (fields s))
      ≡ map (λ n. least s c (fields s) +ℤ pos n) (from (within s c) (suc (spread s c (fields s)) - within s c))
  unfolding sums within
  over_limit =
      let l : ℤ = least s c (fields s) in
      let z : ℤ = c.most -ℤ l in
      let w : ℕ = suc (spread s c (fields s)) in
      keep-map (lt_z c.most) (λ n. l +ℤ pos n) (up_to w)
      ∙ ap (map (λ n. l +ℤ pos n))
      (keep_below (λ n. lt_z c.most (l +ℤ pos n)) (λ n. lt_z z (pos n)) w (λ n _. above c.most l n)
      ∙ keep-above (λ n. lt_z z (pos n)) (at_most z w) w (at_most_lem z w) (at-most_low z w) (at-most_high z w))

-- The clauses of places and constraints: none of them is left out.
open_any : {A : Type 0} (f : A → Literal) (xs : List A) → any sure (map (λ a. unknown (f a)) xs) ≡ false
unfolding any
open_any f [] = refl
open_any f (x ∷ xs) = open_any f xs

module _ (s : Sheet) where
  stays-some : (f c : ℕ) → stays s (SomeValue f c) ≡ true
  unfolding left_out terms
  stays-some f c = ap not (open_any (λ a. is (K f c a)) (up_to (suc (blank s))))

  stays_add : (r k : ℕ) (n : ℤ) (d : ℕ) → stays s (Add r k n d) ≡ true
  unfolding left_out terms any
  stays_add r k n d =
      rw (
        sure-only (ltb 0 d) (unknown (is (K k (d - 1) (blank s)))) refl,
        sure-only (ltb d (limit s k)) (unknown (isnt (K k d (blank s)))) refl,
      )

  place-stays : (f c : ℕ) → keep (stays s) (place_ids s f c) ≡ place_ids s f c
  unfolding left_out terms any
  place-stays f c = keep_all (stays s) (place_ids s f c) (place_in s (λ q. stays s q ≡ true) f c (record {
    some_value = stays-some f c;
    not_both = λ a b lt le. refl;
    blank_tail = λ lt. refl;
  }))

-- What is not left out. Of a field: of each of its places.
abbrev pub field_part : Sheet → ℕ → List ClauseId
field_part s f = each (up_to (limit s f)) (place_ids s f)

-- of an equation: of each of its locations, row by row
abbrev pub location_part : Sheet → ℕ → ℕ → ℕ → List ClauseId
location_part s p i j = standing (blank s) p i j (side (left_cells s p) i) (side (right_cells s p) j)

abbrev pub row_part : Sheet → ℕ → ℕ → List ClauseId
row_part s p i = each (up_to (suc (length (right_cells s p)))) (location_part s p i)

abbrev pub equation_part : Sheet → ℕ → List ClauseId
equation_part s p = (Start p ∷ []) ++ each (up_to (suc (length (left_cells s p)))) (row_part s p)

-- of a constraint: of each field's step, sum by sum, and of the final sums above the limit
abbrev pub sum_part : Sheet → ℕ → ℕ → ℕ → List ClauseId
sum_part s r k n = add_ids s r k (least s (constraint s r) k +ℤ pos n)

abbrev pub step_part : Sheet → ℕ → ℕ → List ClauseId
step_part s r k = each (up_to (suc (spread s (constraint s r) k))) (sum_part s r k)

abbrev pub bound_part : Sheet → ℕ → List ClauseId
bound_part s r =
    map (λ n. Bound r (least s (constraint s r) (fields s) +ℤ pos n))
    (from (within s (constraint s r)) (suc (spread s (constraint s r) (fields s)) - within s (constraint s r)))

abbrev pub constraint_part : Sheet → ℕ → List ClauseId
constraint_part s r = (Zero r ∷ []) ++ (each (up_to (fields s)) (step_part s r) ++ bound_part s r)

-- of all fields, all equations and all constraints
abbrev pub field_parts : Sheet → List ClauseId
field_parts s = each (up_to (fields s)) (field_part s)

abbrev pub equation_parts : Sheet → List ClauseId
equation_parts s = each (up_to (length s.equations)) (equation_part s)

abbrev pub constraint_parts : Sheet → List ClauseId
constraint_parts s = each (up_to (length s.constraints)) (constraint_part s)

module _ (s : Sheet) where
  equation_part_lem : WellFormed s → (p : ℕ) → p < length s.equations → keep (stays s) (equation_ids s p) ≡ equation_part s p
  unfolding equation_ids left_out terms any
  equation_part_lem ok p h =
      let t : ClauseId → Bool = stays s in
      let m : ℕ = length (left_cells s p) in
      let n : ℕ = length (right_cells s p) in
      let at : ℕ → ℕ → List ClauseId = location_ids s p m n in
      keep-yes t (Start p) (each (up_to (suc m)) (λ i. each (up_to (suc n)) (at i))) refl
      ∙ ap (λ z. Start p ∷ z)
      (keep_loop t (λ i. each (up_to (suc n)) (at i)) (row_part s p) (suc m) (λ i hi.
      keep_loop t (at i) (location_part s p i) (suc n) (λ j hj. standing-is s ok p h i j (omega arith) (omega arith))))

  constraint-is : (r : ℕ) → constraint_ids s r ≡ constraint_part s r
  unfolding constraint_ids sums
  constraint-is r =
      let c : Constraint = constraint s r in
      let adds : (k : ℕ) → ℤ → List ClauseId = add_ids s r in
      ap₂ (λ y z. (Zero r ∷ []) ++ (y ++ z))
      (loop_same (λ k. each (sums s c k) (adds k)) (step_part s r) (fields s) (λ k h.
      each_map (λ n. least s c k +ℤ pos n) (up_to (suc (spread s c k))) (adds k)))
      (each-when (lt_z c.most) (Bound r) (sums s c (fields s))
      ∙ ap (map (Bound r)) (over_limit s c)
      ∙ map-map (Bound r) (λ n. least s c (fields s) +ℤ pos n) (from (within s c) (suc (spread s c (fields s)) - within s c)))

  constraint_part_lem : (r : ℕ) → keep (stays s) (constraint_ids s r) ≡ constraint_part s r
  unfolding left_out terms any
  constraint_part_lem r =
      let P : ClauseId → Type 0 = λ q. stays s q ≡ true in
      let c : Constraint = constraint s r in
      let bound : ℕ → ClauseId = λ n. Bound r (least s c (fields s) +ℤ pos n) in
      ap (keep (stays s)) (constraint-is r)
      ∙ keep_all (stays s) (constraint_part s r)
      (append_in P (Zero r ∷ []) (each (up_to (fields s)) (step_part s r) ++ bound_part s r) (one_in P refl)
      (append_in P (each (up_to (fields s)) (step_part s r)) (bound_part s r)
      (loop_in P (fields s) (step_part s r) (λ k h. loop_in P (suc (spread s c k)) (sum_part s r k) (λ n l.
      map-from_in P (Add r k (least s c k +ℤ pos n)) 0 (suc (limit s k)) (stays_add s r k (least s c k +ℤ pos n)))))
      (map-from_in P bound (within s c) (suc (spread s c (fields s)) - within s c) (λ n. refl))))

  -- All that are not left out.
  pub ids-are : WellFormed s → ids s ≡ field_parts s ++ (equation_parts s ++ constraint_parts s)
  unfolding ids listed
  ids-are ok =
      let t : ClauseId → Bool = stays s in
      let es : List ClauseId = each (up_to (length s.equations)) (equation_ids s) in
      let cs : List ClauseId = each (up_to (length s.constraints)) (constraint_ids s) in
      keep_append t (field_parts s) (es ++ cs)
      ∙ ap₂ ◌++◌
      (keep_loop t (field_part s) (field_part s) (fields s) (λ f h.
      keep_loop t (place_ids s f) (place_ids s f) (limit s f) (λ c k. place-stays s f c)))
      (keep_append t es cs
      ∙ ap₂ ◌++◌ (keep_loop t (equation_ids s) (equation_part s) (length s.equations) (equation_part_lem ok))
      (keep_loop t (constraint_ids s) (constraint_part s) (length s.constraints) (λ r h. constraint_part_lem r)))

-- How many each part has.
module _ (s : Sheet) where
  pub not_both_count_lem : (f c : ℕ) → length (each (up_to (suc (blank s))) (not_both_ids s f c)) ≡ not_both_count (blank s)
  not_both_count_lem f c =
      length_loop (not_both_ids s f c) (suc (blank s)) (λ a. blank s - a) (λ a h. length-map-from (NotBoth f c a) (suc a) (blank s - a))

  pub place-count : (f c : ℕ) → length (place_ids s f c) ≡ place_count (blank s) (limit s f) c
  unfolding place_ids
  place-count f c =
      let tail : List ClauseId = when (ltb (suc c) (limit s f)) (BlankTail f c ∷ []) in
      let x = length-append (each (up_to (suc (blank s))) (not_both_ids s f c)) tail in
      let y = not_both_count_lem f c in
      let z : length tail ≡ pick (ltb (suc c) (limit s f)) 1 0 = by_test (ltb (suc c) (limit s f)) (λ e. rw e) (λ e. rw e) in
      omega arith

  pub field_count_lem : (f : ℕ) → length (field_part s f) ≡ field_count s f
  field_count_lem f = length_loop (place_ids s f) (limit s f) (place_count (blank s) (limit s f)) (λ c h. place-count f c)

  module _ (ok : WellFormed s) (p : ℕ) (hp : p < length s.equations) where
    pub location_count_lem : (i j : ℕ) → length (location_part s p i j) ≡ location_size s p i j
    location_count_lem i j =
        let r = sides_in s ok p hp i j in
        standing-count (blank s) p i j (side (left_cells s p) i) (side (right_cells s p) j) r.0 r.1

    pub row_count_lem : (i : ℕ) → length (row_part s p i) ≡ row_count s p i
    row_count_lem i = length_loop (location_part s p i) (suc (length (right_cells s p))) (location_size s p i) (λ j h. location_count_lem i j)

    pub equation_count_lem : length (equation_part s p) ≡ equation_count s p
    unfolding equation_count
    equation_count_lem =
        let e = length_loop (row_part s p) (suc (length (left_cells s p))) (row_count s p) (λ i h. row_count_lem i) in
        omega arith

  module _ (r : ℕ) where
    pub sum_count : (k n : ℕ) → length (sum_part s r k n) ≡ suc (limit s k)
    sum_count k n = length-map-from (Add r k (least s (constraint s r) k +ℤ pos n)) 0 (suc (limit s k))

    pub step_count_lem : (k : ℕ) → length (step_part s r k) ≡ step_count s r k
    step_count_lem k =
        let w : ℕ = suc (spread s (constraint s r) k) in
        length_loop (sum_part s r k) w (λ n. suc (limit s k)) (λ n h. sum_count k n) ∙ total_const w (suc (limit s k))

    pub steps_count : length (each (up_to (fields s)) (step_part s r)) ≡ total (fields s) (step_count s r)
    steps_count = length_loop (step_part s r) (fields s) (step_count s r) (λ k h. step_count_lem k)

    pub constraint_count_lem : length (constraint_part s r) ≡ constraint_count s r
    unfolding constraint_count
    constraint_count_lem =
        let c : Constraint = constraint s r in
        let over : ℕ = suc (spread s c (fields s)) - within s c in
        let x = length-append (each (up_to (fields s)) (step_part s r)) (bound_part s r) in
        let y = steps_count in
        let z = length-map-from (λ n. Bound r (least s c (fields s) +ℤ pos n)) (within s c) over in
        omega arith

  pub fields-count : length (field_parts s) ≡ k_clauses s
  fields-count = length_loop (field_part s) (fields s) (field_count s) (λ f h. field_count_lem f)

  pub equations-count : WellFormed s → length (equation_parts s) ≡ s_clauses s
  equations-count ok = length_loop (equation_part s) (length s.equations) (equation_count s) (equation_count_lem ok)

  -- How many clauses there are.
  pub clause_count_lem : WellFormed s → length (ids s) ≡ clause_count s
  unfolding clause_count
  clause_count_lem ok =
      ap length (ids-are s ok) ∙ length-append (field_parts s) (equation_parts s ++ constraint_parts s)
      ∙ ap₂ ◌+◌ fields-count (length-append (equation_parts s) (constraint_parts s)
      ∙ ap₂ ◌+◌ (equations-count ok)
      (length_loop (constraint_part s) (length s.constraints) (constraint_count s) (λ r h. constraint_count_lem r)))

-- Every place of a field but the last has one clause more than its pairs and the first.
pub place-before : (l n c : ℕ) → c < n → total c (place_count l n) ≡ c * (2 + not_both_count l)
place-before l n c h =
    total-same c (place_count l n) (λ i. 2 + not_both_count l) (λ i k. rw (lt-ltb (suc i) n (omega arith)) (omega arith))
    ∙ total_const c (2 + not_both_count l)

pub field-total : (l n : ℕ) → 0 < n → total n (place_count l n) + 1 ≡ n * (2 + not_both_count l)
unfolding total
field-total l zero h = absurd (omega arith)
field-total l (suc m) h =
    let before = place-before l (suc m) m (omega arith) in
    let last : place_count l (suc m) m ≡ 1 + not_both_count l = rw (le-ltb (suc m) (suc m) (omega arith)) (omega arith) in
    let e = suc-mul m (2 + not_both_count l) in
    omega arith
