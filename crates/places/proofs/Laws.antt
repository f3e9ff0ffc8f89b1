-- Laws for the loops of this crate: the true values at a place, tests of all fields, blanks, texts and fields. Assumes nothing.
use mathlib.Core.Path.{◌≡◌, refl, sym, ap, subst, ◌∙◌}
use mathlib.Core.Bool.{Bool, true, false}
use mathlib.Core.List.{List, [], ◌∷◌, ◌++◌, map, append-nil}
use Prim.Native.Nat.{ℕ, zero, suc, ◌+◌, ◌-◌, ◌<◌, ◌≤◌}
use native.Mathlib.Omega.{arith}
use lib.Arith.{lt_of_le-ne}
use lib.Dec.{eqb}
use lib.ListN.{length, get_or, take, drop, set, replicate, length-append, length-map, length-replicate, length-set, get_or-replicate, get_or-map}
use lib.Seq.{length-take-le, get_or-take, get_or-set_same, get_or-set_other, ext_get_or, take_at, drop_at}
use borrow.Author.Tests.{eq-eqb, ne_eqb, eqb-true, eqb-false}
use Rattle.model.specs.Lists.{from, up_to, keep, all}
use Rattle.model.specs.Sheet.{Sheet, limit, sheet_of}
use Rattle.model.specs.Range.{Admitted}
use Rattle.model.specs.Word.{Legal}
use Rattle.formula.specs.Clause.{K, blank, fields}
use Rattle.formula.specs.Numbering.{variables, number}
use Rattle.formula.specs.Assignment.{Assignment, truth, up_to_blank, held, true_values, spelled}
use Rattle.calls.specs.Reply.{all_single, blanks_last, none_after_blank}
use Rattle.model.proofs.Lists.{by_test, from_at}
use Rattle.model.proofs.Keeping.{all_below, all_not, keep-yes, keep-no, length-map-from, map_next}
use Rattle.model.proofs.Seams.{store_next, drop-replicate}
use Rattle.formula.proofs.KClauses.{spelled-text, spelled-legal}
use Rattle.formula.proofs.Numbering.{number_small, variable_count_lem}
use Rattle.fields.specs.declared.Field.{Field}
use Rattle.fields.specs.Memory.{text_of, texts_of, field, Whole, meaning, Held}

-- the numbers from a up to n, with and without the first
range_head : (a n : ℕ) → a < n → from a (n - a) ≡ a ∷ from (a + 1) (n - (a + 1))
unfolding from
range_head a n h =
    let e : n - a ≡ suc (n - (a + 1)) = omega arith in
    let k : suc a ≡ a + 1 = omega arith in
    rw e (ap (λ z. a ∷ from z (n - (a + 1))) k)

range_none : (a n : ℕ) → n ≤ a → from a (n - a) ≡ []
unfolding from
range_none a n h = let e : n - a ≡ 0 = omega arith in rw e

-- `values`: whether the marks make the value a true at a place, and the true values from a up to n
abbrev pub is_true : Sheet → List ℕ → ℕ → ℕ → ℕ → Bool
is_true s marks f c a = truth marks (number s (K f c a))

unfoldable pub onward : (ℕ → Bool) → ℕ → ℕ → List ℕ
onward p n a = keep p (from a (n - a))

number_next : (s : Sheet) (f c a : ℕ) → number s (K f c a) ≡ number s (K f c 0) + a
unfolding number
number_next s f c a = omega arith

module _ (s : Sheet) (marks : List ℕ) (f c first a : ℕ) (e : first ≡ number s (K f c 0)) where
  pub in_marks : length marks ≡ suc (length (variables s)) → f < fields s → c < limit s f → a ≤ blank s → first + a < length marks
  in_marks l h k m =
      let n = number_small s (K f c a) ((h, k), m) in
      let v = variable_count_lem s in
      let q = number_next s f c a in
      omega arith

  here : number s (K f c a) ≡ first + a
  here = number_next s f c a ∙ ap (λ n. n + a) (sym e)

  pub is_true_lem : get_or marks (first + a) 0 ≡ 1 → is_true s marks f c a ≡ true
  unfolding truth
  is_true_lem h = rw here (eq-eqb _ _ h)

  pub is_false : (get_or marks (first + a) 0 ≡ 1 → ⊥) → is_true s marks f c a ≡ false
  unfolding truth
  is_false h = rw here (ne_eqb _ _ h)

-- the values from a on have been counted, and the least of them noted: l is blank
pub record Counted (p : ℕ → Bool) (l a count least : ℕ) : Type 0 where
  pub inside : a ≤ suc l
  pub few : count + a ≤ suc l
  pub small : least ≤ l
  pub counts : count ≡ length (onward p (suc l) a)
  is_least : least ≡ get_or (onward p (suc l) a) 0 l

module _ (p : ℕ → Bool) (l : ℕ) where
  pub counted_start : Counted p l (l + 1) 0 l
  unfolding onward keep
  counted_start =
      let e : onward p (suc l) (l + 1) ≡ [] = ap (keep p) (range_none (l + 1) (suc l) (omega arith)) in
      record { inside = omega arith; few = omega arith; small = omega arith; counts = ap length (sym e); is_least = ap (λ (xs : List ℕ). get_or xs 0 l) (sym e) }

  one_before : (a : ℕ) → 0 < a → a ≤ suc l → from (a - 1) (suc l - (a - 1)) ≡ (a - 1) ∷ from a (suc l - a)
  one_before a h k = let e : a - 1 + 1 ≡ a = omega arith in rw e at (range_head (a - 1) (suc l) (omega arith))

  module _ (a count least : ℕ) (h : Counted p l a count least) (above : 0 < a) where
    pub counted-yes : p (a - 1) ≡ true → Counted p l (a - 1) (count + 1) (a - 1)
    unfolding onward
    counted-yes t =
        let e : onward p (suc l) (a - 1) ≡ (a - 1) ∷ onward p (suc l) a =
        ap (keep p) (one_before a above h.inside) ∙ keep-yes p (a - 1) (from a (suc l - a)) t in
        let n = ap length e in
        record { inside = omega arith; few = omega arith; small = omega arith; counts = omega arith; is_least = ap (λ (xs : List ℕ). get_or xs 0 l) (sym e) }

    pub counted-no : p (a - 1) ≡ false → Counted p l (a - 1) count least
    unfolding onward
    counted-no t =
        let e : onward p (suc l) (a - 1) ≡ onward p (suc l) a =
        ap (keep p) (one_before a above h.inside) ∙ keep-no p (a - 1) (from a (suc l - a)) t in
        let n = ap length e in
        record { inside = omega arith; few = omega arith; small = omega arith; counts = omega arith; is_least = h.is_least ∙ ap (λ (xs : List ℕ). get_or xs 0 l) (sym e) }

-- all of them, where l is the sheet's blank
pub counted-all : (s : Sheet) (marks : List ℕ) (f c l a count least : ℕ) → l ≡ blank s → a ≡ 0 → Counted (is_true s marks f c) l a count least
    → (count ≡ length (true_values s (truth marks) f c)) × (least ≡ held s (truth marks) f c) × (least ≤ blank s)
unfolding onward true_values
counted-all s marks f c l a count least el ea h =
    let n : suc l - a ≡ suc (blank s) = omega arith in
    let e : onward (is_true s marks f c) (suc l) a ≡ true_values s (truth marks) f c =
    ap (λ k. keep (is_true s marks f c) (from a k)) n ∙ ap (λ k. keep (is_true s marks f c) (from k (suc (blank s)))) ea in
    (h.counts ∙ ap length e, h.is_least ∙ ap (λ (xs : List ℕ). get_or xs 0 l) e ∙ ap (λ k. get_or (true_values s (truth marks) f c) 0 k) el, omega arith)

-- a test of all fields is one of each
pub single_all : (s : Sheet) (w : Assignment) → all_single s w ≡ all (λ f. all (λ c. eqb (length (true_values s w f c)) 1) (up_to (limit s f))) (up_to (fields s))
unfolding all_single
single_all s w = refl

pub blanks_all : (s : Sheet) (w : Assignment) → none_after_blank s w ≡ all (λ f. blanks_last (blank s) (map (held s w f) (up_to (limit s f)))) (up_to (fields s))
unfolding none_after_blank
blanks_all s w = refl

-- what passes from f on up to n, and at the one before, passes from that on
pub from_less : (p : ℕ → Bool) (f n : ℕ) → ((i : ℕ) → f ≤ i → i < n → p i ≡ true) → p (f - 1) ≡ true → (i : ℕ) → f - 1 ≤ i → i < n → p i ≡ true
from_less p f n h e i low high = by_test (eqb (f - 1) i)
    (λ t. subst (λ k. p k ≡ true) (eqb-true (f - 1) i t) e)
    (λ t. let m : f - 1 < i = lt_of_le-ne low (eqb-false (f - 1) i t) in h i (omega arith) high)

-- `every`: what it answers of tests from 0 up to n
pub every_is : (p : ℕ → Bool) (n : ℕ) (r : Bool) → (r ≡ true → (i : ℕ) → i < n → p i ≡ true) → (r ≡ false → (i : ℕ) × (i < n) × (p i ≡ false)) → r ≡ all p (up_to n)
every_is p n r pass fail = by_test r (λ t. t ∙ sym (all_below p n (pass t))) (λ t. let k = fail t in t ∙ sym (all_not p n k.0 k.1 k.2))

-- `blanks_last`: what is asked of values before a blank, and after one; and of those at the places from c up to n
abbrev pub asked : Bool → ℕ → List ℕ → Bool
asked true l xs = all (λ x. eqb x l) xs
asked false l xs = blanks_last l xs

unfoldable pub ahead : ℕ → (ℕ → ℕ) → ℕ → Bool → ℕ → Bool
ahead l h n ended c = asked ended l (map h (from c (n - c)))

module _ (l : ℕ) (h : ℕ → ℕ) (n : ℕ) where
  pub ahead_all : ahead l h n false 0 ≡ blanks_last l (map h (up_to n))
  unfolding ahead
  ahead_all = let e : n - 0 ≡ n = omega arith in ap (λ k. blanks_last l (map h (from 0 k))) e

  pub ahead_over : (ended : Bool) (c : ℕ) → n ≤ c → ahead l h n ended c ≡ true
  unfolding ahead all blanks_last
  ahead_over true c k = ap (λ xs. asked true l (map h xs)) (range_none c n k)
  ahead_over false c k = ap (λ xs. asked false l (map h xs)) (range_none c n k)

  module _ (c : ℕ) (k : c < n) where
    pub ahead_blank : (ended : Bool) → h c ≡ l → ahead l h n ended c ≡ ahead l h n true (c + 1)
    unfolding ahead all blanks_last
    ahead_blank true e = ap (λ xs. asked true l (map h xs)) (range_head c n k) ∙ rw (eq-eqb (h c) l e)
    ahead_blank false e = ap (λ xs. asked false l (map h xs)) (range_head c n k) ∙ rw (eq-eqb (h c) l e)

    pub ahead_letter : (h c ≡ l → ⊥) → ahead l h n false c ≡ ahead l h n false (c + 1)
    unfolding ahead blanks_last
    ahead_letter d = ap (λ xs. asked false l (map h xs)) (range_head c n k) ∙ rw (ne_eqb (h c) l d)

    pub ahead_fails : (h c ≡ l → ⊥) → ahead l h n true c ≡ false
    unfolding ahead all
    ahead_fails d = ap (λ xs. asked true l (map h xs)) (range_head c n k) ∙ rw (ne_eqb (h c) l d)

-- `field_text`: values of which the first m are letters; up to the first blank, and with none
module _ (l : ℕ) (h : ℕ → ℕ) where
  text-from : (m n a : ℕ) → ((k : ℕ) → a ≤ k → k < a + m → h k ≡ l → ⊥) → up_to_blank l h a (m + n) ≡ map h (from a m) ++ up_to_blank l h (a + m) n
  unfolding up_to_blank from
  text-from zero n a d = let e : 0 + n ≡ n = omega arith in let q : a + 0 ≡ a = omega arith in rw (e, q)
  text-from (suc m) n a d =
      let e : suc m + n ≡ suc (m + n) = omega arith in
      let q : a + suc m ≡ suc a + m = omega arith in
      rw (e, q, ne_eqb (h a) l (d a (omega arith) (omega arith))) (ap (λ z. h a ∷ z) (text-from m n (suc a) (λ k i j. d k (omega arith) (omega arith))))

  pub text-whole : (n : ℕ) → ((k : ℕ) → k < n → h k ≡ l → ⊥) → up_to_blank l h 0 n ≡ map h (up_to n)
  unfolding up_to_blank
  text-whole n d =
      let e : n ≡ n + 0 = omega arith in
      ap (up_to_blank l h 0) e ∙ text-from n 0 0 (λ k i j. d k (omega arith)) ∙ append-nil (map h (up_to n))

  pub text_stop : (n c : ℕ) → c < n → ((k : ℕ) → k < c → h k ≡ l → ⊥) → h c ≡ l → up_to_blank l h 0 n ≡ map h (up_to c)
  unfolding up_to_blank
  text_stop n c i d b =
      let e : n ≡ c + suc (n - suc c) = omega arith in
      let z : 0 + c ≡ c = omega arith in
      let ends : up_to_blank l h c (suc (n - suc c)) ≡ [] = rw (eq-eqb (h c) l b) in
      ap (up_to_blank l h 0) e
      ∙ text-from c (suc (n - suc c)) 0 (λ k i j. d k (omega arith))
      ∙ ap (λ k. map h (up_to c) ++ up_to_blank l h k (suc (n - suc c))) z
      ∙ ap (λ t. map h (up_to c) ++ t) ends
      ∙ append-nil (map h (up_to c))

-- a field that holds a text, and 255 past it
pub field-holds : (t u : List ℕ) (c : ℕ) (xs : List ℕ) → xs ≡ t ++ drop c (replicate {A = ℕ} 8 255) → length t ≡ c → c ≤ 8 → u ≡ t
    → Whole (record { letters = xs; len = c }) × (text_of (record { letters = xs; len = c }) ≡ u)
field-holds t u c xs e n h q =
    let is : xs ≡ t ++ replicate (8 - c) 255 = e ∙ ap (λ z. t ++ z) (drop-replicate c 8 255 h) in (
      record {
        eight = ap length is ∙ simp (length-append, length-replicate) (omega arith);
        short = h;
        past = ap (drop c) is ∙ drop_at t (replicate (8 - c) 255) c n;
      },
      ap (take c) is ∙ take_at t (replicate (8 - c) 255) c n ∙ sym q,
    )

-- one value more is stored
pub store_more : (h : ℕ → ℕ) (c x : ℕ) (xs : List ℕ) → xs ≡ map h (up_to c) ++ drop c (replicate {A = ℕ} 8 255) → c < 8 → x ≡ h c
    → set xs c x ≡ map h (up_to (c + 1)) ++ drop (c + 1) (replicate {A = ℕ} 8 255)
store_more h c x xs e k q = rw (e, q, map_next) (store_next (map h (up_to c)) (replicate 8 255) c (h c) (length-map-from h 0 c) k)

-- `spelled`: six fields, of which the first n hold the texts t 0 .. t (n - 1)
pub record Filled (t : ℕ → List ℕ) (n : ℕ) (g : List Field) : Type 0 where
  pub six : length g ≡ 6
  pub whole : (k : ℕ) → k < 6 → Whole (field g k)
  pub texts : (k : ℕ) → k < n → text_of (field g k) ≡ t k

abbrev pub empty : Field
empty = record { letters = replicate 8 255; len = 0 }

pub filled_start : (t : ℕ → List ℕ) → Filled t 0 (replicate 6 empty)
filled_start t = record {
  six = refl;
  whole = λ k h. rw (get_or-replicate 6 k empty (record { letters = []; len = 0 }) h) (record { eight = refl; short = omega arith; past = refl });
  texts = λ k h. absurd (omega arith);
}

pub filled_more : (t : ℕ → List ℕ) (n : ℕ) (g : List Field) (v : Field) → Filled t n g → n < 6 → Whole v → text_of v ≡ t n → Filled t (n + 1) (set g n v)
filled_more t n g v h i w e =
    let six = h.six in
    let here : field (set g n v) n ≡ v = get_or-set_same g n v (record { letters = []; len = 0 }) (omega arith) in
    let other : (k : ℕ) → (k ≡ n → ⊥) → field (set g n v) k ≡ field g k = λ k d. get_or-set_other g n k v (record { letters = []; len = 0 }) d in
    record {
      six = length-set g n v ∙ six;
      whole = λ k l. by_test (eqb k n)
          (λ y. subst Whole (sym here ∙ ap (field (set g n v)) (sym (eqb-true k n y))) w)
          (λ y. subst Whole (sym (other k (eqb-false k n y))) (h.whole k l));
      texts = λ k l. by_test (eqb k n)
          (λ y. ap (λ j. text_of (field (set g n v) j)) (eqb-true k n y) ∙ ap text_of here ∙ e ∙ ap t (sym (eqb-true k n y)))
          (λ y. ap text_of (other k (eqb-false k n y)) ∙ h.texts k (lt_of_le-ne (omega arith) (eqb-false k n y)));
    }

-- What they hold then, where n is the number of fields.
abbrev pub text_at : Sheet → Assignment → ℕ → List ℕ
text_at s w f = up_to_blank (blank s) (held s w f) 0 (limit s f)

pub filled_held : (b : List ℕ) (w : Assignment) (n : ℕ) (g : List Field) → Admitted b → n ≡ fields (sheet_of b)
    → Filled (text_at (sheet_of b) w) n g → Held b g × (meaning b g ≡ spelled (sheet_of b) w)
filled_held b w n g ok e h =
    let s = sheet_of b in
    let few = ok.1.counts_in.of_fields in
    let six = h.six in
    let long = length-map g text_of in
    let is : meaning b g ≡ spelled s w =
    ext_get_or [] (meaning b g) (spelled s w) (length-take-le (fields s) (texts_of g) (omega arith) ∙ sym (spelled-legal s w).one_each) (λ f i.
    let l : f < fields s = omega (arith, length-take-le (fields s) (texts_of g) (omega arith)) in
    get_or-take (fields s) (texts_of g) f [] l
    ∙ get_or-map text_of g f (record { letters = []; len = 0 })
    ∙ h.texts f (omega arith)
    ∙ sym (spelled-text s w f l)) in (
      record {
        accepted = ok.0;
        in_range = ok.1;
        six = six;
        whole = from_at Whole (record { letters = []; len = 0 }) g (λ k l. h.whole k (omega arith));
        legal = subst (Legal s) (sym is) (spelled-legal s w);
      },
      is,
    )
