-- Laws of specs/Lists: tests, and what holds of every element. Assumes nothing.
use mathlib.Core.Path.{◌≡◌, refl, sym, ap, subst, ◌∙◌}
use mathlib.Core.Bool.{Bool, true, false, not, ◌&&◌, ◌||◌}
use mathlib.Core.List.{List, [], ◌∷◌, ◌++◌, map, append_assoc, append-nil}
use Prim.Native.Nat.{ℕ, zero, suc, ◌+◌, ◌<◌, ◌≤◌}
use native.Mathlib.Numerals.{add-one}
use native.Mathlib.Omega.{arith}
use lib.Arith.{lt_of_le-ne}
use lib.Dec.{eqb}
use lib.ListN.{length, get_or, take, drop, drop_of_length-le, length-append, take-append-drop}
use lib.Seq.{drop-cons, take-suc}
use borrow.Author.Tests.{eqb-true, eqb-false, eq-eqb}
use Rattle.model.specs.Lists.{starts_with, same, each, from, up_to, All, all, any}

pub never : {P : Type 0} → false ≡ true → P
never e = let z : ◌≡◌ {A = ℕ} 0 1 = cc in absurd (omega arith)

pub by_test : {P : Type 0} (b : Bool) → (b ≡ true → P) → (b ≡ false → P) → P
by_test true f g = f refl
by_test false f g = g refl

pub and_split : (a b : Bool) → (a && b) ≡ true → (a ≡ true) × (b ≡ true)
and_split true b e = (refl, e)
and_split false b e = never e

pub and_join : {a b : Bool} → a ≡ true → b ≡ true → (a && b) ≡ true
and_join p q = rw (p, q)

and_false : (a : Bool) {b : Bool} → b ≡ false → (a && b) ≡ false
and_false true e = e
and_false false e = refl

pub and_true : (a : Bool) → (a && true) ≡ a
and_true true = refl
and_true false = refl

pub or_left : {a : Bool} (b : Bool) → a ≡ true → (a || b) ≡ true
or_left b e = rw e

pub or_right : (a : Bool) {b : Bool} → b ≡ true → (a || b) ≡ true
or_right true e = refl
or_right false e = e

pub or_false : (a : Bool) → (a || false) ≡ a
or_false true = refl
or_false false = refl

pub or_cases : {P : Type 0} (a b : Bool) → (a || b) ≡ true → (a ≡ true → P) → (b ≡ true → P) → P
or_cases true b h f g = f refl
or_cases false b h f g = g h

-- a disjunction as "if not the one, then the other", shown and used; `not a || b` as "if a, then b"
pub or_else : (a : Bool) {b : Bool} → (a ≡ false → b ≡ true) → (a || b) ≡ true
or_else true f = refl
or_else false f = f refl

pub or_other : {a b : Bool} → (a || b) ≡ true → a ≡ false → b ≡ true
or_other h e = rw e at h

pub imply : (a : Bool) {b : Bool} → (a ≡ true → b ≡ true) → (not a || b) ≡ true
imply true f = f refl
imply false f = refl

pub implied : {a b : Bool} → (not a || b) ≡ true → a ≡ true → b ≡ true
implied h e = rw e at h

-- of what is left of a list of alternatives, the last one
pub or_last : {a : Bool} → (a || false) ≡ true → a ≡ true
or_last {a = true} h = refl
or_last {a = false} h = h

-- Two lists are equal exactly when the test passes.
pub same-equal : (xs ys : List ℕ) → same xs ys ≡ true → xs ≡ ys
unfolding same
same-equal [] [] h = refl
same-equal [] (y ∷ ys) h = never h
same-equal (x ∷ xs) [] h = never h
same-equal (x ∷ xs) (y ∷ ys) h =
    let r = and_split (eqb x y) (same xs ys) h in
    let e = eqb-true x y r.0 in
    let es = same-equal xs ys r.1 in
    cc

pub equal-same : (xs ys : List ℕ) → xs ≡ ys → same xs ys ≡ true
unfolding same
equal-same xs ys h = subst (λ zs. same xs zs ≡ true) h (itself xs)
  where
    itself : (zs : List ℕ) → same zs zs ≡ true
    itself [] = refl
    itself (z ∷ zs) = and_join (eq-eqb z z refl) (itself zs)

-- Lists of other lengths differ; those of one length are the same where the one starts with the other.
pub other_length : (xs ys : List ℕ) → (length xs ≡ length ys → ⊥) → same xs ys ≡ false
unfolding same
other_length [] [] h = absurd (h refl)
other_length [] (y ∷ ys) h = refl
other_length (x ∷ xs) [] h = refl
other_length (x ∷ xs) (y ∷ ys) h = and_false (eqb x y) (other_length xs ys (λ e. h (ap suc e)))

pub same_starts : (xs ys : List ℕ) → length xs ≡ length ys → same xs ys ≡ starts_with ys xs
unfolding same starts_with
same_starts [] [] h = refl
same_starts [] (y ∷ ys) h = absurd (omega arith)
same_starts (x ∷ xs) [] h = absurd (omega arith)
same_starts (x ∷ xs) (y ∷ ys) h = ap (λ b. eqb x y && b) (same_starts xs ys (omega arith))

module _ {A : Type 0} (P : A → Type 0) where
  pub append_out : (xs ys : List A) → All P (xs ++ ys) → All P xs × All P ys
  unfolding All
  append_out [] ys h = (tt, h)
  append_out (x ∷ xs) ys h = let r = append_out xs ys h.1 in ((h.0, r.0), r.1)

  pub weaken : (Q : A → Type 0) (xs : List A) → ((x : A) → P x → Q x) → All P xs → All Q xs
  unfolding All
  weaken Q [] f h = tt
  weaken Q (x ∷ xs) f h = (f x h.0, weaken Q xs f h.1)

  pub at : (xs : List A) (k : ℕ) (d : A) → All P xs → k < length xs → P (get_or xs k d)
  unfolding All
  at [] k d h l = absurd (omega arith)
  at (x ∷ xs) zero d h l = h.0
  at (x ∷ xs) (suc k) d h l = at xs k d h.1 (omega arith)

  pub from_at : (d : A) (xs : List A) → ((k : ℕ) → k < length xs → P (get_or xs k d)) → All P xs
  unfolding All
  from_at d [] h = tt
  from_at d (x ∷ xs) h = (h 0 (omega arith), from_at d xs (λ k l. h (suc k) (omega arith)))

  pub map_in : {B : Type 0} (f : B → A) (xs : List B) → All (λ x. P (f x)) xs → All P (map f xs)
  unfolding All
  map_in f [] h = tt
  map_in f (x ∷ xs) h = (h.0, map_in f xs h.1)

  -- a map is undone where it is undone at each element
  pub map_back : {B : Type 0} (f : A → B) (g : B → A) (xs : List A) → ((x : A) → P x → g (f x) ≡ x) → All P xs → map g (map f xs) ≡ xs
  unfolding All
  map_back f g [] e h = refl
  map_back f g (x ∷ xs) e h = rw (e x h.0, map_back f g xs e h.1)

-- P of every element of several lists put together
module _ {A : Type 0} (P : A → Type 0) where
  pub append_in : (xs ys : List A) → All P xs → All P ys → All P (xs ++ ys)
  unfolding All
  append_in [] ys h k = k
  append_in (x ∷ xs) ys h k = (h.0, append_in xs ys h.1 k)

  pub map_out : {B : Type 0} (f : B → A) (xs : List B) → All P (map f xs) → All (λ x. P (f x)) xs
  unfolding All
  map_out f [] h = tt
  map_out f (x ∷ xs) h = (h.0, map_out f xs h.1)

  pub each_out : {B : Type 0} (xs : List B) (f : B → List A) → All P (each xs f) → All (λ x. All P (f x)) xs
  unfolding All each
  each_out [] f h = tt
  each_out (x ∷ xs) f h = let r = append_out P (f x) (each xs f) h in (r.0, each_out xs f r.1)

  pub each_in : {B : Type 0} (xs : List B) (f : B → List A) → All (λ x. All P (f x)) xs → All P (each xs f)
  unfolding All each
  each_in [] f h = tt
  each_in (x ∷ xs) f h = append_in (f x) (each xs f) h.0 (each_in xs f h.1)

-- a test over a list
module _ {A : Type 0} (p : A → Bool) where
  pub all_out : (xs : List A) → all p xs ≡ true → All (λ x. p x ≡ true) xs
  unfolding All all
  all_out [] e = tt
  all_out (x ∷ xs) e = let r = and_split (p x) (all p xs) e in (r.0, all_out xs r.1)

  pub all_in : (xs : List A) → All (λ x. p x ≡ true) xs → all p xs ≡ true
  unfolding All all
  all_in [] h = refl
  all_in (x ∷ xs) h = and_join h.0 (all_in xs h.1)

  -- none passes; and one that passes, with what holds of every element
  pub any_none : (xs : List A) → any p xs ≡ false → All (λ x. p x ≡ false) xs
  unfolding All any
  any_none [] e = tt
  any_none (x ∷ xs) e = by_test (p x) (λ t. never (sym e ∙ or_left (any p xs) t)) (λ t. (t, any_none xs (rw t at e)))

  pub any_some : (Q : A → Type 0) (xs : List A) → All Q xs → any p xs ≡ true → (x : A) × Q x × (p x ≡ true)
  unfolding All any
  any_some Q [] h e = never e
  any_some Q (x ∷ xs) h e = or_cases (p x) (any p xs) e (λ t. (x, h.0, t)) (λ t. any_some Q xs h.1 t)

-- a test over a list, decided from index i on: one element at a time
module _ {A : Type 0} (p : A → Bool) (xs : List A) (i : ℕ) (d : A) where
  pub all_here : i < length xs → p (get_or xs i d) ≡ true → all p (drop i xs) ≡ all p (drop (i + 1) xs)
  unfolding all
  all_here h e = rw (add-one, drop-cons xs i d, e)

  pub all_fails : i < length xs → p (get_or xs i d) ≡ false → all p (drop i xs) ≡ false
  unfolding all
  all_fails h e = rw (drop-cons xs i d, e)

  pub all_whole : length xs ≤ i → all p (drop i xs) ≡ true
  unfolding all
  all_whole h = rw (drop_of_length-le xs h)

-- what is written of each element, where two ways of writing agree
pub each_same : {A B : Type 0} (f h : A → List B) (xs : List A) → All (λ x. f x ≡ h x) xs → each xs f ≡ each xs h
unfolding All each
each_same f h [] e = refl
each_same f h (x ∷ xs) e = rw (e.0, each_same f h xs e.1)

pub each_append : {A B : Type 0} (f : A → List B) (xs ys : List A) → each (xs ++ ys) f ≡ each xs f ++ each ys f
unfolding each
each_append f [] ys = refl
each_append f (x ∷ xs) ys = ap (λ z. f x ++ z) (each_append f xs ys) ∙ sym (append_assoc (f x) (each xs f) (each ys f))

-- what is written of the first i elements: with one more, and no more than of all
module _ {A B : Type 0} (f : A → List B) (xs : List A) (i : ℕ) where
  pub each_next : (d : A) → i < length xs → each (take (i + 1) xs) f ≡ each (take i xs) f ++ f (get_or xs i d)
  unfolding each
  each_next d h =
      rw (add-one, take-suc xs i d h) (each_append f (take i xs) (get_or xs i d ∷ []) ∙ ap (λ z. each (take i xs) f ++ z) (append-nil (f (get_or xs i d))))

  pub each_part : length (each (take i xs) f) ≤ length (each xs f)
  each_part =
      let e = ap length (ap (λ x. each x f) (sym (take-append-drop i xs)) ∙ each_append f (take i xs) (drop i xs)) in
      let n = length-append (each (take i xs) f) (each (drop i xs) f) in
      omega arith

-- the numbers from a on, and those below n
pub from_out : (P : ℕ → Type 0) (a n : ℕ) → All P (from a n) → (i : ℕ) → a ≤ i → i < a + n → P i
unfolding All from
from_out P a zero h i low high = absurd (omega arith)
from_out P a (suc n) h i low high = by_test (eqb a i)
    (λ t. subst P (eqb-true a i t) h.0)
    (λ t. from_out P (suc a) n h.1 i (lt_of_le-ne low (eqb-false a i t)) (omega arith))

pub below_out : (P : ℕ → Type 0) (n : ℕ) → All P (up_to n) → (i : ℕ) → i < n → P i
below_out P n h i k = from_out P 0 n h i (omega arith) (omega arith)

pub from_more : (a n : ℕ) → from a (n + 1) ≡ from a n ++ ((a + n) ∷ [])
unfolding from
from_more a zero = let e : a + 0 ≡ a = omega arith in rw e
from_more a (suc n) =
    let e : suc n + 1 ≡ suc (n + 1) = omega arith in
    let k : suc a + n ≡ a + suc n = omega arith in
    rw e (ap (λ xs. a ∷ xs) (from_more (suc a) n ∙ ap (λ m. from (suc a) n ++ (m ∷ [])) k))

-- what is written of the numbers below n: of none, and of one more
module _ {A : Type 0} (h : ℕ → List A) where
  pub each_none : each (up_to 0) h ≡ []
  unfolding each from
  each_none = refl

  pub each_more : (n : ℕ) → each (up_to (n + 1)) h ≡ each (up_to n) h ++ h n
  unfolding each
  each_more n =
      let e : 0 + n ≡ n = omega arith in
      rw (from_more 0 n, e) (each_append h (up_to n) (n ∷ []) ∙ ap (λ z. each (up_to n) h ++ z) (append-nil (h n)))
