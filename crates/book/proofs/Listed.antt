-- A list of the pairs that pass a test, as those that clash: each is of two templates, the first below the second, that pass it; every two that do are there; and
-- they stand in the order "by i then j", so that none is there twice. Assumes nothing.
use mathlib.Core.Path.{◌≡◌, refl, ap, ◌∙◌}
use mathlib.Core.Bool.{Bool, true, false, ◌&&◌}
use mathlib.Core.List.{List, [], ◌∷◌, ◌++◌, map}
use Prim.Native.Nat.{ℕ, zero, suc, ◌+◌, ◌-◌, ◌*◌, ◌<◌, ◌≤◌}
use native.Mathlib.Omega.{arith}
use lib.ListN.{length, get_or}
use Rattle.model.specs.Lists.{each, from, up_to, when, keep, total, All}
use Rattle.model.proofs.Lists.{by_test, weaken, at, append_in, map_in, map_out, from_out, each_in, each_same}
use Rattle.model.proofs.Keeping.{keep_in, keep_out, from_in, below_in, loop_in, loop_out, keep-each, keep-short, length-map-from, length_loop, total_grows}
use Rattle.model.proofs.Pieces.{each-each}
use Rattle.book.specs.Book.{Book}
use Rattle.book.specs.Pairs.{Pair, pairs, kept, clash, clashing, pair_bytes, list_bytes, row_bytes, Precedes, by_first, by_second}

abbrev pair : ℕ → ℕ → Pair
pair i j = record { first = i; second = j }

-- the pairs with i as the first
abbrev row_of : ℕ → ℕ → List Pair
row_of n i = map (λ j. pair i j) (from (suc i) (n - suc i))

-- All of them, and no others.
module _ (n : ℕ) where
  -- what holds of every listed pair holds of every two numbers, the first below the second
  pub pairs_out : (P : Pair → Type 0) → All P (pairs n) → (i j : ℕ) → i < j → j < n → P (pair i j)
  unfolding pairs
  pairs_out P h i j l m =
      from_out (λ j. P (pair i j)) (suc i) (n - suc i) (map_out P (λ j. pair i j) (from (suc i) (n - suc i)) (loop_out P n (row_of n) h i (omega arith))) j l (omega arith)

  pub pairs_in : (P : Pair → Type 0) → ((i j : ℕ) → i < j → j < n → P (pair i j)) → All P (pairs n)
  unfolding pairs
  pairs_in P h =
      loop_in P n (row_of n) (λ i l. map_in P (λ j. pair i j) (from (suc i) (n - suc i)) (from_in (λ j. P (pair i j)) (suc i) (n - suc i) (λ j a b. h i j a (omega arith))))

module _ (t : ℕ → ℕ → Bool) (n : ℕ) where
  pub kept_pass : All (λ p. (p.first < p.second) × (p.second < n) × (t p.first p.second ≡ true)) (kept t n)
  kept_pass = keep_in _ (λ p. t p.first p.second) (pairs n) (pairs_in n _ (λ i j l m e. (l, m, e)))

  pub pass_kept : (P : Pair → Type 0) → All P (kept t n) → (i j : ℕ) → i < j → j < n → t i j ≡ true → P (pair i j)
  pass_kept P h i j l m e = pairs_out n _ (keep_out P (λ p. t p.first p.second) (pairs n) h) i j l m e

-- Once, and in order: every pair precedes those after it.
unfoldable Sorted : List Pair → Type 0
Sorted [] = Unit
Sorted (p ∷ ps) = All (Precedes p) ps × Sorted ps

sorted_append : (xs ys : List Pair) → Sorted xs → Sorted ys → All (λ x. All (Precedes x) ys) xs → Sorted (xs ++ ys)
unfolding Sorted All
sorted_append [] ys h k a = k
sorted_append (x ∷ xs) ys h k a = (append_in (Precedes x) xs ys h.0 a.0, sorted_append xs ys h.1 k a.1)

-- one more, or not
sorted_maybe : (b : Bool) (x : Pair) (ys : List Pair) → All (Precedes x) ys → Sorted ys → Sorted (when b (x ∷ []) ++ ys)
unfolding Sorted
sorted_maybe true x ys h k = (h, k)
sorted_maybe false x ys h k = k

sorted_keep : (t : Pair → Bool) (xs : List Pair) → Sorted xs → Sorted (keep t xs)
unfolding Sorted keep
sorted_keep t [] h = tt
sorted_keep t (x ∷ xs) h = sorted_maybe (t x) x (keep t xs) (keep_in (Precedes x) t xs (weaken _ _ xs (λ y p _. p) h.0)) (sorted_keep t xs h.1)

sorted_row : (i a n : ℕ) → Sorted (map (λ j. pair i j) (from a n))
unfolding Sorted from
sorted_row i a zero = tt
sorted_row i a (suc n) = (map_in _ (λ j. pair i j) (from (suc a) n) (from_in _ (suc a) n (λ j l m. by_second refl l)), sorted_row i (suc a) n)

-- rows, each of which has its number as the first of its pairs
sorted_rows : (f : ℕ → List Pair) → ((i : ℕ) → Sorted (f i)) → ((i : ℕ) → All (λ p. p.first ≡ i) (f i)) → (a n : ℕ) → Sorted (each (from a n) f)
unfolding Sorted each from
sorted_rows f s h a zero = tt
sorted_rows f s h a (suc n) =
    sorted_append (f a) (each (from (suc a) n) f) (s a) (sorted_rows f s h (suc a) n)
    (weaken _ _ (f a) (λ p e. later p e) (h a))
  where
    later : (p : Pair) → p.first ≡ a → All (Precedes p) (each (from (suc a) n) f)
    later p e = each_in (Precedes p) (from (suc a) n) f (from_in _ (suc a) n (λ i l m. weaken _ _ (f i) (λ q z. by_first (omega arith)) (h i)))

pairs_sorted : (n : ℕ) → Sorted (pairs n)
unfolding pairs
pairs_sorted n = sorted_rows (row_of n) (λ i. sorted_row i (suc i) (n - suc i)) (λ i. map_in _ (λ j. pair i j) (from (suc i) (n - suc i)) (from_in _ (suc i) (n - suc i) (λ j l m. refl))) 0 n

sorted_at : (xs : List Pair) → Sorted xs → (d : Pair) (m n : ℕ) → m < n → n < length xs → Precedes (get_or xs m d) (get_or xs n d)
unfolding Sorted
sorted_at [] h d m n l k = absurd (omega arith)
sorted_at (x ∷ xs) h d m zero l k = absurd (omega arith)
sorted_at (x ∷ xs) h d zero (suc n) l k = at (Precedes x) xs n d h.0 (omega arith)
sorted_at (x ∷ xs) h d (suc m) (suc n) l k = sorted_at xs h.1 d m n (omega arith) (omega arith)

pub kept_in_order : (t : ℕ → ℕ → Bool) (c : ℕ) (d : Pair) (m n : ℕ) → m < n → n < length (kept t c) → Precedes (get_or (kept t c) m d) (get_or (kept t c) n d)
kept_in_order t c = sorted_at (kept t c) (sorted_keep (λ p. t p.first p.second) (pairs c) (pairs_sorted c))

-- none precedes itself, so that none stands there twice
pub precedes_another : (p q : Pair) → Precedes p q → p ≡ q → ⊥
precedes_another p q (by_first l) e = let m = ap (λ (r : Pair). r.first) e in omega arith
precedes_another p q (by_second f l) e = let m = ap (λ (r : Pair). r.second) e in omega arith

pub kept_once : (t : ℕ → ℕ → Bool) (c : ℕ) (d : Pair) (m n : ℕ) → m < n → n < length (kept t c) → get_or (kept t c) m d ≡ get_or (kept t c) n d → ⊥
kept_once t c d m n l h = precedes_another (get_or (kept t c) m d) (get_or (kept t c) n d) (kept_in_order t c d m n l h)

-- Its size: two bytes for each pair.
two_each : (ps : List Pair) → length (each ps pair_bytes) ≡ 2 * length ps
unfolding each
two_each [] = refl
two_each (p ∷ ps) = let n = two_each ps in omega arith

pub list_size : (ps : List Pair) → length (list_bytes ps) ≡ 2 * length ps
unfolding list_bytes
list_size = two_each

below_sixteen : total 16 (λ i. 16 - suc i) ≡ 120
unfolding total
below_sixteen = refl

module _ (t : ℕ → ℕ → Bool) (n : ℕ) where
  pub kept-few : n ≤ 16 → length (kept t n) ≤ 120
  unfolding pairs
  kept-few h =
      let short = keep-short (λ p. t p.first p.second) (pairs n) in
      let all = length_loop (row_of n) n (λ i. n - suc i) (λ i l. length-map-from (λ j. pair i j) (suc i) (n - suc i)) in
      let most = total_grows n 16 (λ i. n - suc i) (λ i. 16 - suc i) h (λ i l. omega arith) in
      omega (arith, below_sixteen)

  -- The list as it is written, row by row.
  row_written : (i : ℕ) (js : List ℕ) → each (keep (λ p. t p.first p.second) (map (λ j. pair i j) js)) pair_bytes ≡ each js (λ j. when (t i j) (i ∷ j ∷ []))
  unfolding each keep
  row_written i [] = refl
  row_written i (j ∷ js) = by_test (t i j) (λ e. rw e (ap (λ z. i ∷ j ∷ z) (row_written i js))) (λ e. rw e (row_written i js))

  pub list_rows : list_bytes (kept t n) ≡ each (up_to n) (row_bytes t n)
  unfolding list_bytes pairs row_bytes
  list_rows =
      ap (λ ps. each ps pair_bytes) (keep-each (λ p. t p.first p.second) (up_to n) (row_of n))
      ∙ each-each (up_to n) _ pair_bytes
      ∙ each_same _ _ (up_to n) (below_in _ n (λ i l. row_written i (from (suc i) (n - suc i))))

-- of the pairs that pass one test those that pass another
kept_again : (t u : ℕ → ℕ → Bool) (ps : List Pair) → keep (λ p. u p.first p.second) (keep (λ p. t p.first p.second) ps) ≡ keep (λ p. t p.first p.second && u p.first p.second) ps
unfolding keep
kept_again t u [] = refl
kept_again t u (p ∷ ps) = by_test (t p.first p.second)
    (λ e. rw e (ap (λ z. when (u p.first p.second) (p ∷ []) ++ z) (kept_again t u ps)))
    (λ e. rw e (kept_again t u ps))

pub kept_both : (t u : ℕ → ℕ → Bool) (n : ℕ) → keep (λ p. u p.first p.second) (kept t n) ≡ kept (λ i j. t i j && u i j) n
kept_both t u n = kept_again t u (pairs n)

-- tests that agree on all pairs keep the same
keep-agree : (f g : Pair → Bool) (ps : List Pair) → All (λ p. f p ≡ g p) ps → keep f ps ≡ keep g ps
unfolding keep All
keep-agree f g [] h = refl
keep-agree f g (p ∷ ps) h = rw h.0 (ap (λ z. when (g p) (p ∷ []) ++ z) (keep-agree f g ps h.1))

pub kept-agree : (t u : ℕ → ℕ → Bool) (n : ℕ) → ((i j : ℕ) → i < j → j < n → t i j ≡ u i j) → kept t n ≡ kept u n
kept-agree t u n h = keep-agree (λ p. t p.first p.second) (λ p. u p.first p.second) (pairs n) (pairs_in n _ h)

-- those that clash
pub clashing-kept : (k : Book) → clashing k ≡ kept (clash k) (length k.templates)
unfolding clashing
clashing-kept k = refl
