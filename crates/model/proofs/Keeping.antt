-- Laws of specs/Lists on ranges, on what is written of each element, on what a test keeps, and on totals. Assumes nothing.
use mathlib.Core.Path.{◌≡◌, refl, sym, ap, ap₂, subst, ◌∙◌}
use mathlib.Core.Bool.{Bool, true, false, ◌&&◌, ◌||◌}
use mathlib.Core.List.{List, [], ◌∷◌, ◌++◌, map, append_assoc}
use Prim.Native.Nat.{ℕ, zero, suc, ◌+◌, ◌-◌, ◌*◌, ◌<◌, ◌≤◌}
use native.Mathlib.Nat.{suc-mul}
use native.Mathlib.Numerals.{add-one}
use native.Mathlib.Omega.{arith}
use lib.Arith.{lt_of_le-ne}
use lib.Dec.{ltb, eqb}
use lib.ListN.{length, get_or, length-append, length-map, get_or-append}
use lib.Seq.{get_or-append-add}
use borrow.Author.Tests.{ltb-true, ltb-false, eqb-true, eqb-false}
use Rattle.model.specs.Lists.{each, from, up_to, all, any, when, keep, total, All}
use Rattle.model.proofs.Lists.{never, by_test, or_left, or_right, append_in, append_out, map_in, each_in, each_out, each_same, below_out, from_more, each_none, each_more, all_out, all_in}

-- P of every element of a list of one, of a list that a test may drop, of what a test keeps
module _ {A : Type 0} (P : A → Type 0) where
  pub one_out : {x : A} → All P (x ∷ []) → P x
  unfolding All
  one_out h = h.0

  pub one_in : {x : A} → P x → All P (x ∷ [])
  unfolding All
  one_in h = (h, tt)

  pub when_out : (b : Bool) (xs : List A) → All P (when b xs) → b ≡ true → All P xs
  when_out true xs h e = h
  when_out false xs h e = never e

  pub when_in : (b : Bool) (xs : List A) → (b ≡ true → All P xs) → All P (when b xs)
  unfolding All
  when_in true xs h = h refl
  when_in false xs h = tt

  pub keep_out : (t : A → Bool) (xs : List A) → All P (keep t xs) → All (λ x. t x ≡ true → P x) xs
  unfolding All keep
  keep_out t [] h = tt
  keep_out t (x ∷ xs) h =
      let r = append_out P (when (t x) (x ∷ [])) (keep t xs) h in
      ((λ e. one_out (when_out (t x) (x ∷ []) r.0 e)), keep_out t xs r.1)

  pub keep_in : (t : A → Bool) (xs : List A) → All (λ x. t x ≡ true → P x) xs → All P (keep t xs)
  unfolding All keep
  keep_in t [] h = tt
  keep_in t (x ∷ xs) h =
      append_in P (when (t x) (x ∷ [])) (keep t xs) (when_in (t x) (x ∷ []) (λ e. one_in (h.0 e))) (keep_in t xs h.1)

-- the numbers from a on, and those below n
pub length_from : (a n : ℕ) → length (from a n) ≡ n
unfolding from
length_from a zero = refl
length_from a (suc n) = ap suc (length_from (suc a) n)

pub from_in : (P : ℕ → Type 0) (a n : ℕ) → ((i : ℕ) → a ≤ i → i < a + n → P i) → All P (from a n)
unfolding All from
from_in P a zero f = tt
from_in P a (suc n) f =
    (f a (omega arith) (omega arith), from_in P (suc a) n (λ i low high. f i (omega arith) (omega arith)))

pub below_in : (P : ℕ → Type 0) (n : ℕ) → ((i : ℕ) → i < n → P i) → All P (up_to n)
below_in P n f = from_in P 0 n (λ i low high. f i (omega arith))

pub map-from_in : {A : Type 0} (P : A → Type 0) (h : ℕ → A) (a n : ℕ) → ((i : ℕ) → P (h i)) → All P (map h (from a n))
map-from_in P h a n f = map_in P h (from a n) (from_in (λ i. P (h i)) a n (λ i low high. f i))

pub length-map-from : {A : Type 0} (h : ℕ → A) (a n : ℕ) → length (map h (from a n)) ≡ n
length-map-from h a n = length-map (from a n) h ∙ length_from a n

-- what is written of each number below n
module _ {A : Type 0} (P : A → Type 0) (n : ℕ) (f : ℕ → List A) where
  pub loop_out : All P (each (up_to n) f) → (i : ℕ) → i < n → All P (f i)
  loop_out h = below_out (λ i. All P (f i)) n (each_out P (up_to n) f h)

  pub loop_in : ((i : ℕ) → i < n → All P (f i)) → All P (each (up_to n) f)
  loop_in h = each_in P (up_to n) f (below_in (λ i. All P (f i)) n h)

-- how much is written, where of one no more than k is
pub each-most : {A B : Type 0} (k : ℕ) (f : A → List B) (xs : List A) → All (λ x. length (f x) ≤ k) xs → length (each xs f) ≤ length xs * k
unfolding All each
each-most k f [] h = omega arith
each-most k f (x ∷ xs) h =
    let this = h.0 in
    let others = each-most k f xs h.1 in
    let n = length-append (f x) (each xs f) in
    let m = suc-mul (length xs) k in
    omega arith

pub each-short : {A : Type 0} (f : ℕ → List A) (k n : ℕ) → ((i : ℕ) → i < n → length (f i) ≤ k) → length (each (up_to n) f) ≤ n * k
each-short f k n h = subst (λ m. length (each (up_to n) f) ≤ m * k) (length_from 0 n) (each-most k f (up_to n) (below_in (λ i. length (f i) ≤ k) n h))

-- Ranges.
pub from_join : (a m n : ℕ) → from a (m + n) ≡ from a m ++ from (a + m) n
unfolding from
from_join a zero n = let e : 0 + n ≡ n = omega arith in let q : a + 0 ≡ a = omega arith in rw (e, q)
from_join a (suc m) n =
    let e : suc m + n ≡ suc (m + n) = omega arith in
    let q : a + suc m ≡ suc a + m = omega arith in
    rw (e, q) (ap (λ z. a ∷ z) (from_join (suc a) m n))

pub from_is : (a n i : ℕ) → i < n → get_or (from a n) i 0 ≡ a + i
unfolding from
from_is a zero i k = absurd (omega arith)
from_is a (suc n) zero k = omega arith
from_is a (suc n) (suc i) k = from_is (suc a) n i (omega arith) ∙ (let e : suc a + i ≡ a + suc i = omega arith in e)

pub map_at : {A B : Type 0} (f : A → B) (d : A) (e : B) (xs : List A) (i : ℕ) → i < length xs → get_or (map f xs) i e ≡ f (get_or xs i d)
map_at f d e [] i h = absurd (omega arith)
map_at f d e (x ∷ xs) zero h = refl
map_at f d e (x ∷ xs) (suc i) h = map_at f d e xs i (omega arith)

pub map-from-at : {A : Type 0} (h : ℕ → A) (d : A) (a n i : ℕ) → i < n → get_or (map h (from a n)) i d ≡ h (a + i)
map-from-at h d a n i k = let m = length_from a n in map_at h 0 d (from a n) i (omega arith) ∙ ap h (from_is a n i k)

-- Maps, and what is written of each element.
pub map-append : {A B : Type 0} (f : A → B) (xs ys : List A) → map f (xs ++ ys) ≡ map f xs ++ map f ys
map-append f [] ys = refl
map-append f (x ∷ xs) ys = ap (λ z. f x ∷ z) (map-append f xs ys)

-- of the numbers below n, with one more
pub map_next : {A : Type 0} (f : ℕ → A) (n : ℕ) → map f (up_to (n + 1)) ≡ map f (up_to n) ++ (f n ∷ [])
map_next f n = let e : 0 + n ≡ n = omega arith in rw (from_more 0 n, e) (map-append f (up_to n) (n ∷ []))

pub map-map : {A B C : Type 0} (g : B → C) (f : A → B) (xs : List A) → map g (map f xs) ≡ map (λ x. g (f x)) xs
map-map g f [] = refl
map-map g f (x ∷ xs) = ap (λ z. g (f x) ∷ z) (map-map g f xs)

pub map_each : {A B C : Type 0} (g : B → C) (xs : List A) (f : A → List B) → map g (each xs f) ≡ each xs (λ x. map g (f x))
unfolding each
map_each g [] f = refl
map_each g (x ∷ xs) f = map-append g (f x) (each xs f) ∙ ap (λ z. map g (f x) ++ z) (map_each g xs f)

pub each_map : {A B C : Type 0} (g : A → B) (xs : List A) (f : B → List C) → each (map g xs) f ≡ each xs (λ x. f (g x))
unfolding each
each_map g [] f = refl
each_map g (x ∷ xs) f = ap (λ z. f (g x) ++ z) (each_map g xs f)

pub each-when : {A B : Type 0} (b : B → Bool) (f : B → A) (xs : List B) → each xs (λ x. when (b x) (f x ∷ [])) ≡ map f (keep b xs)
unfolding each keep
each-when b f [] = refl
each-when b f (x ∷ xs) =
    let others = each-when b f xs in
    by_test (b x) (λ k. rw k (ap (λ z. f x ∷ z) others)) (λ k. rw k others)

-- What a test keeps.
module _ {A : Type 0} (t : A → Bool) where
  pub keep-short : (xs : List A) → length (keep t xs) ≤ length xs
  unfolding keep
  keep-short [] = omega arith
  keep-short (x ∷ xs) = let h = keep-short xs in by_test (t x) (λ e. rw e (omega arith)) (λ e. rw e (omega arith))

  pub keep_append : (xs ys : List A) → keep t (xs ++ ys) ≡ keep t xs ++ keep t ys
  unfolding keep
  keep_append [] ys = refl
  keep_append (x ∷ xs) ys =
      ap (λ z. when (t x) (x ∷ []) ++ z) (keep_append xs ys)
      ∙ sym (append_assoc (when (t x) (x ∷ [])) (keep t xs) (keep t ys))

  pub keep-each : {B : Type 0} (xs : List B) (f : B → List A) → keep t (each xs f) ≡ each xs (λ x. keep t (f x))
  unfolding keep each
  keep-each [] f = refl
  keep-each (x ∷ xs) f = keep_append (f x) (each xs f) ∙ ap (λ z. keep t (f x) ++ z) (keep-each xs f)

  pub keep-map : {B : Type 0} (f : B → A) (xs : List B) → keep t (map f xs) ≡ map f (keep (λ x. t (f x)) xs)
  unfolding keep
  keep-map f [] = refl
  keep-map f (x ∷ xs) =
      let others = keep-map f xs in
      by_test (t (f x)) (λ e. rw e (ap (λ z. f x ∷ z) others)) (λ e. rw e others)

  pub keep-when : (b : Bool) (xs : List A) → keep t (when b xs) ≡ when b (keep t xs)
  unfolding keep
  keep-when true xs = refl
  keep-when false xs = refl

  pub keep-yes : (x : A) (xs : List A) → t x ≡ true → keep t (x ∷ xs) ≡ x ∷ keep t xs
  unfolding keep
  keep-yes x xs e = rw e

  pub keep-no : (x : A) (xs : List A) → t x ≡ false → keep t (x ∷ xs) ≡ keep t xs
  unfolding keep
  keep-no x xs e = rw e

  pub keep_all : (xs : List A) → All (λ x. t x ≡ true) xs → keep t xs ≡ xs
  unfolding keep All
  keep_all [] h = refl
  keep_all (x ∷ xs) h = rw h.0 (ap (λ z. x ∷ z) (keep_all xs h.1))

  pub keep-none : (xs : List A) → All (λ x. t x ≡ false) xs → keep t xs ≡ []
  unfolding keep All
  keep-none [] h = refl
  keep-none (x ∷ xs) h = rw h.0 (keep-none xs h.1)

  keep_same : (u : A → Bool) (xs : List A) → All (λ x. t x ≡ u x) xs → keep t xs ≡ keep u xs
  unfolding keep All
  keep_same u [] h = refl
  keep_same u (x ∷ xs) h = ap₂ (λ b z. when b (x ∷ []) ++ z) h.0 (keep_same u xs h.1)

-- what two tests keep of the numbers below n, what two functions make of them, and whether two tests pass at all, where they agree
pub keep_below : (t u : ℕ → Bool) (n : ℕ) → ((i : ℕ) → i < n → t i ≡ u i) → keep t (up_to n) ≡ keep u (up_to n)
keep_below t u n e = keep_same t u (up_to n) (below_in (λ i. t i ≡ u i) n e)

pub map_below : {A : Type 0} (f h : ℕ → A) (n : ℕ) → ((i : ℕ) → i < n → f i ≡ h i) → map f (up_to n) ≡ map h (up_to n)
unfolding All
map_below f h n e = same-all (up_to n) (below_in (λ i. f i ≡ h i) n e)
  where
    same-all : (xs : List ℕ) → All (λ i. f i ≡ h i) xs → map f xs ≡ map h xs
    same-all [] k = refl
    same-all (x ∷ xs) k = ap₂ ◌∷◌ k.0 (same-all xs k.1)

pub all_same : (t u : ℕ → Bool) (n : ℕ) → ((i : ℕ) → i < n → t i ≡ u i) → all t (up_to n) ≡ all u (up_to n)
unfolding All all
all_same t u n e = same-all (up_to n) (below_in (λ i. t i ≡ u i) n e)
  where
    same-all : (xs : List ℕ) → All (λ i. t i ≡ u i) xs → all t xs ≡ all u xs
    same-all [] k = refl
    same-all (x ∷ xs) k = ap₂ ◌&&◌ k.0 (same-all xs k.1)

-- whether a test passes at every number below n
pub all_below : (t : ℕ → Bool) (n : ℕ) → ((i : ℕ) → i < n → t i ≡ true) → all t (up_to n) ≡ true
all_below t n h = all_in t (up_to n) (below_in (λ i. t i ≡ true) n h)

pub all_not : (t : ℕ → Bool) (n i : ℕ) → i < n → t i ≡ false → all t (up_to n) ≡ false
all_not t n i h e = by_test (all t (up_to n))
    (λ p. never (sym e ∙ below_out (λ i. t i ≡ true) n (all_out t (up_to n) p) i h))
    (λ p. p)

-- what is written of the numbers below n, where two ways of writing agree, or agree in what a test keeps
pub loop_same : {A : Type 0} (f h : ℕ → List A) (n : ℕ) → ((i : ℕ) → i < n → f i ≡ h i) → each (up_to n) f ≡ each (up_to n) h
loop_same f h n e = each_same f h (up_to n) (below_in (λ i. f i ≡ h i) n e)

pub keep_loop : {A : Type 0} (t : A → Bool) (f h : ℕ → List A) (n : ℕ) → ((i : ℕ) → i < n → keep t (f i) ≡ h i)
    → keep t (each (up_to n) f) ≡ each (up_to n) h
keep_loop t f h n e = keep-each t (up_to n) f ∙ loop_same (λ i. keep t (f i)) h n e

-- a test that the numbers from k on pass, and no others
pub keep-above : (t : ℕ → Bool) (k w : ℕ) → k ≤ w → ((n : ℕ) → n < k → t n ≡ false) → ((n : ℕ) → k ≤ n → n < w → t n ≡ true)
    → keep t (up_to w) ≡ from k (w - k)
keep-above t k w h low high =
    let e : w ≡ k + (w - k) = omega arith in
    let z : 0 + k ≡ k = omega arith in
    ap (λ n. keep t (up_to n)) e ∙ ap (keep t) (from_join 0 k (w - k)) ∙ keep_append t (up_to k) (from (0 + k) (w - k))
    ∙ ap₂ ◌++◌ (keep-none t (up_to k) (below_in (λ n. t n ≡ false) k low)) (ap (λ n. keep t (from n (w - k))) z)
    ∙ keep_all t (from k (w - k)) (from_in (λ n. t n ≡ true) k (w - k) (λ n l m. high n l (omega arith)))

-- the numbers below l: those before b, b, and those after it
around : (b l : ℕ) → b < l → up_to l ≡ up_to b ++ (b ∷ from (suc b) (l - suc b))
unfolding from
around b l h =
    let e : l ≡ b + suc (l - suc b) = omega arith in
    let z : 0 + b ≡ b = omega arith in
    ap up_to e ∙ from_join 0 b (suc (l - suc b)) ∙ ap (λ c. up_to b ++ from c (suc (l - suc b))) z

pub keep_around : (t : ℕ → Bool) (b l : ℕ) → b < l → keep t (up_to l) ≡ keep t (up_to b) ++ keep t (b ∷ from (suc b) (l - suc b))
keep_around t b l h = ap (keep t) (around b l h) ∙ keep_append t (up_to b) (b ∷ from (suc b) (l - suc b))

-- a test that one number below n passes, and no other
pub keep_one : (t : ℕ → Bool) (n a : ℕ) → a < n → t a ≡ true → ((b : ℕ) → b < n → t b ≡ true → b ≡ a) → keep t (up_to n) ≡ a ∷ []
keep_one t n a h e one =
    let others : List ℕ = from (suc a) (n - suc a) in
    let fails : (b : ℕ) → b < n → (b ≡ a → ⊥) → t b ≡ false = λ b l d. by_test (t b) (λ p. absurd (d (one b l p))) (λ p. p) in
    keep_around t a n h
    ∙ ap₂ ◌++◌
    (keep-none t (up_to a) (below_in (λ b. t b ≡ false) a (λ b l. fails b (omega arith) (λ d. omega arith))))
    (keep-yes t a others e
    ∙ ap (λ xs. a ∷ xs) (keep-none t others (from_in (λ b. t b ≡ false) (suc a) (n - suc a) (λ b l u. fails b (omega arith) (λ d. omega arith)))))

-- whether some number of a range passes a test
module _ (p : ℕ → Bool) where
  pub range_out : (a n : ℕ) → any p (from a n) ≡ true → (i : ℕ) × (i < a + n) × (p i ≡ true)
  unfolding any from
  range_out a zero e = never e
  range_out a (suc n) e = by_test (p a)
      (λ t. (a, omega arith, t))
      (λ t. let r = range_out (suc a) n (rw t at e) in (r.0, omega (arith, r.1), r.2))

  pub range_in : (a n i : ℕ) → a ≤ i → i < a + n → p i ≡ true → any p (from a n) ≡ true
  unfolding any from
  range_in a zero i low high e = absurd (omega arith)
  range_in a (suc n) i low high e = by_test (eqb a i)
      (λ t. or_left _ (ap p (eqb-true a i t) ∙ e))
      (λ t. or_right (p a) (range_in (suc a) n i (lt_of_le-ne low (eqb-false a i t)) (omega arith) e))

any-map : {A B : Type 0} (p : B → Bool) (h : A → B) (xs : List A) → any p (map h xs) ≡ any (λ x. p (h x)) xs
unfolding any
any-map p h [] = refl
any-map p h (x ∷ xs) = ap (λ t. p (h x) || t) (any-map p h xs)

module _ {A : Type 0} (p : A → Bool) (h : ℕ → A) where
  pub any_out : (a n : ℕ) → any p (map h (from a n)) ≡ true → (i : ℕ) × (i < a + n) × (p (h i) ≡ true)
  any_out a n e = range_out (λ i. p (h i)) a n (sym (any-map p h (from a n)) ∙ e)

  pub any_in : (a n i : ℕ) → a ≤ i → i < a + n → p (h i) ≡ true → any p (map h (from a n)) ≡ true
  any_in a n i low high e = any-map p h (from a n) ∙ range_in (λ i. p (h i)) a n i low high e

-- Totals.
pub total_head : (n : ℕ) (h : ℕ → ℕ) → total (suc n) h ≡ h 0 + total n (λ i. h (suc i))
unfolding total
total_head zero h = omega arith
total_head (suc n) h = let before = total_head n h in omega arith

pub total_const : (n w : ℕ) → total n (λ i. w) ≡ n * w
unfolding total
total_const zero w = omega arith
total_const (suc n) w = let before = total_const n w in let e = suc-mul n w in omega arith

pub total-same : (n : ℕ) (h k : ℕ → ℕ) → ((i : ℕ) → i < n → h i ≡ k i) → total n h ≡ total n k
unfolding total
total-same zero h k f = refl
total-same (suc n) h k f =
    let before = total-same n h k (λ i l. f i (omega arith)) in
    let this = f n (omega arith) in
    omega arith

pub total-none : (h : ℕ → ℕ) → total 0 h ≡ 0
unfolding total
total-none h = refl

pub total-more : (n : ℕ) (h : ℕ → ℕ) → total (n + 1) h ≡ total n h + h n
unfolding total
total-more n h = rw add-one

-- two totals added; a total of totals, the other way round
pub total_both : (n : ℕ) (h k : ℕ → ℕ) → total n h + total n k ≡ total n (λ x. h x + k x)
unfolding total
total_both zero h k = refl
total_both (suc n) h k = let before = total_both n h k in omega arith

pub total_swap : (n m : ℕ) (h : ℕ → ℕ → ℕ) → total n (λ i. total m (h i)) ≡ total m (λ j. total n (λ i. h i j))
unfolding total
total_swap zero m h = let e = total_const m 0 in let z : m * 0 ≡ 0 = omega arith in sym (e ∙ z)
total_swap (suc n) m h = ap (λ z. z + total m (h n)) (total_swap n m h) ∙ total_both m (λ j. total n (λ i. h i j)) (h n)

-- a total of no more parts, each at most as great
pub total_grows : (n m : ℕ) (h g : ℕ → ℕ) → n ≤ m → ((i : ℕ) → i < n → h i ≤ g i) → total n h ≤ total m g
unfolding total
total_grows zero m h g l f = omega arith
total_grows (suc n) zero h g l f = absurd (omega arith)
total_grows (suc n) (suc m) h g l f = by_test (ltb n m)
    (λ e. let k = ltb-true n m e in let q = total_grows (suc n) m h g k f in omega arith)
    (λ e.
    let k = ltb-false n m e in
    let same : n ≡ m = omega arith in
    let before = total_grows n m h g (omega arith) (λ i j. f i (omega arith)) in
    let this : h n ≤ g m = rw (sym same) (f n (omega arith)) in
    omega arith)

-- a place in a part is a place in the whole
pub total-fits : (n : ℕ) (h : ℕ → ℕ) (i k : ℕ) → i < n → k < h i → total i h + k < total n h
unfolding total
total-fits zero h i k lt lk = absurd (omega arith)
total-fits (suc n) h i k lt lk = by_test (eqb i n)
    (λ e. let q = eqb-true i n e in let l : k < h n = subst (λ m. k < h m) q lk in rw q (omega arith))
    (λ e. let before = total-fits n h i k (lt_of_le-ne (omega arith) (eqb-false i n e)) lk in omega arith)

-- What is written of the numbers below n, when of number i so many are written: how many that are, and which is where.
module _ {A : Type 0} (f : ℕ → List A) where
  next : (a n : ℕ) (h : ℕ → ℕ) → ((i : ℕ) → i < suc n → length (f (a + i)) ≡ h i) → (i : ℕ) → i < n → length (f (suc a + i)) ≡ h (suc i)
  next a n h e i k = let q : suc a + i ≡ a + suc i = omega arith in rw q (e (suc i) (omega arith))

  length_blocks : (a n : ℕ) (h : ℕ → ℕ) → ((i : ℕ) → i < n → length (f (a + i)) ≡ h i) → length (each (from a n) f) ≡ total n h
  unfolding each from total
  length_blocks a zero h e = refl
  length_blocks a (suc n) h e =
      let p : a + 0 ≡ a = omega arith in
      let first : length (f a) ≡ h 0 = rw p at (e 0 (omega arith)) in
      let others = length_blocks (suc a) n (λ i. h (suc i)) (λ i k. next a n h e i (omega arith)) in
      length-append (f a) (each (from (suc a) n) f) ∙ ap₂ ◌+◌ first others ∙ sym (total_head n h)

  block_from : (d : A) (a n : ℕ) (h : ℕ → ℕ) → ((i : ℕ) → i < n → length (f (a + i)) ≡ h i) → (i k : ℕ) → i < n → k < h i
      → get_or (each (from a n) f) (total i h + k) d ≡ get_or (f (a + i)) k d
  unfolding each from total
  block_from d a zero h e i k lt lk = absurd (omega arith)
  block_from d a (suc n) h e zero k lt lk =
      let p : a + 0 ≡ a = omega arith in
      let q : 0 + k ≡ k = omega arith in
      let first : length (f a) ≡ h 0 = rw p at (e 0 (omega arith)) in
      rw (p, q) (get_or-append (f a) (each (from (suc a) n) f) d k (omega arith))
  block_from d a (suc n) h e (suc i) k lt lk =
      let p : a + 0 ≡ a = omega arith in
      let r : a + suc i ≡ suc a + i = omega arith in
      let first : length (f a) ≡ h 0 = rw p at (e 0 (omega arith)) in
      let head = total_head i h in
      let q : total i h + h i + k ≡ length (f a) + (total i (λ j. h (suc j)) + k) = omega arith in
      rw (q, r)
      (get_or-append-add (f a) (each (from (suc a) n) f) (total i (λ j. h (suc j)) + k) d
      ∙ block_from d (suc a) n (λ j. h (suc j)) (λ j l. next a n h e j (omega arith)) i k (omega arith) lk)

  module _ (n : ℕ) (h : ℕ → ℕ) (e : (i : ℕ) → i < n → length (f i) ≡ h i) where
    pub length_loop : length (each (up_to n) f) ≡ total n h
    length_loop = length_blocks 0 n h (λ i l. let z : 0 + i ≡ i = omega arith in rw z (e i l))

    pub block_at : (d : A) (i k : ℕ) → i < n → k < h i → get_or (each (up_to n) f) (total i h + k) d ≡ get_or (f i) k d
    block_at d i k lt lk =
        let q : 0 + i ≡ i = omega arith in
        rw q at (block_from d 0 n h (λ j l. let z : 0 + j ≡ j = omega arith in rw z (e j l)) i k lt lk)

-- so of none, and of one more
pub length_none : {A : Type 0} (f : ℕ → List A) → length (each (up_to 0) f) ≡ 0
length_none f = ap length (each_none f)

pub length_more : {A : Type 0} (f : ℕ → List A) (n : ℕ) → length (each (up_to (n + 1)) f) ≡ length (each (up_to n) f) + length (f n)
length_more f n = ap length (each_more f n) ∙ length-append (each (up_to n) f) (f n)

-- in a list put together: an element of the first, and one of the second when the first is so long
pub first-at : {A : Type 0} (d : A) (xs ys : List A) (a n : ℕ) → length xs ≡ a → n < a → get_or (xs ++ ys) n d ≡ get_or xs n d
first-at d xs ys a n e h = get_or-append xs ys d n (omega arith)

pub second_at : {A : Type 0} (d : A) (xs ys : List A) (a n : ℕ) → length xs ≡ a → get_or (xs ++ ys) (a + n) d ≡ get_or ys n d
second_at d xs ys a n e = rw (← e) (get_or-append-add xs ys n d)
