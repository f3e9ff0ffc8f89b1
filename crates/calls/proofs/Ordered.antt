-- Rules asked in their order: the first that is broken decides, and where all are kept the rest does. And walks that ask rules in their
-- order, put together from parts that do. Assumes nothing.
use mathlib.Core.Path.{◌≡◌, refl, sym, ap, ◌∙◌}
use mathlib.Core.Bool.{Bool}
use mathlib.Core.List.{List, [], ◌∷◌, ◌++◌}
use Prim.Native.Nat.{ℕ}
use Rattle.model.specs.Lists.{pick, All}
use Rattle.model.specs.Sheet.{Step, got, fault, ◌then◌, must}
use Rattle.calls.specs.Calls.{Answer, refused, finished}
use Rattle.calls.specs.Rules.{Rule, ◌asks◌, Kept, First}
use Rattle.model.proofs.Lists.{by_test}

-- The refusal of the first rule that is broken, or what goes on where none is.
unfoldable pub in_order_lem : {R : Type 0} → (ℕ → R) → List Rule → R → R
in_order_lem fail [] go = go
in_order_lem fail (r ∷ rules) go = pick r.kept (in_order_lem fail rules go) (fail r.number)

module _ {R : Type 0} (fail : ℕ → R) where
  pub order_append : (xs ys : List Rule) (go : R) → in_order_lem fail (xs ++ ys) go ≡ in_order_lem fail xs (in_order_lem fail ys go)
  unfolding in_order_lem
  order_append [] ys go = refl
  order_append (x ∷ xs) ys go = ap (λ z. pick x.kept z (fail x.number)) (order_append xs ys go)

  pub kept_goes : (rules : List Rule) (go : R) → Kept rules → in_order_lem fail rules go ≡ go
  unfolding in_order_lem All
  kept_goes [] go h = refl
  kept_goes (r ∷ rules) go h = rw h.0 (kept_goes rules go h.1)

  pub first_fails : (rules : List Rule) (go : R) {n : ℕ} → First n rules → in_order_lem fail rules go ≡ fail n
  unfolding in_order_lem
  first_fails rules go f =
      ap (λ z. in_order_lem fail z go) f.are
      ∙ order_append f.earlier (f.broken ∷ f.later) go
      ∙ kept_goes f.earlier _ f.earlier_kept
      ∙ rw f.not_kept (ap fail f.is_number)

-- what is made of an answer that keeps refusals as they are
pub order_through : {R S : Type 0} (f : R → S) (fail : ℕ → R) (fails : ℕ → S) → ((n : ℕ) → f (fail n) ≡ fails n)
    → (rules : List Rule) (go : R) → f (in_order_lem fail rules go) ≡ in_order_lem fails rules (f go)
unfolding in_order_lem
order_through f fail fails e [] go = refl
order_through f fail fails e (r ∷ rules) go = by_test r.kept (λ t. rw t (order_through f fail fails e rules go)) (λ t. rw t (e r.number))

-- Either all are kept or there is a first that is broken.
pub first_or_none : {P : Type 0} (rules : List Rule) → (Kept rules → P) → ((n : ℕ) → First n rules → P) → P
unfolding All
first_or_none [] none first = none tt
first_or_none (r ∷ rules) none first = by_test r.kept
    (λ t. first_or_none rules (λ h. none (t, h)) (λ n f. first n (record {
      earlier = r ∷ f.earlier;
      broken = f.broken;
      later = f.later;
      are = ap (λ z. r ∷ z) f.are;
      earlier_kept = (t, f.earlier_kept);
      not_kept = f.not_kept;
      is_number = f.is_number;
    })))
    (λ t. first r.number (record { earlier = []; broken = r; later = rules; are = refl; earlier_kept = tt; not_kept = t; is_number = refl }))

-- An answer by these rules in their order: the refusal of the first that is broken, or some values.
pub record Ordered (rules : List Rule) (answer : Answer) : Type 0 where
  pub values : List ℕ
  pub is : answer ≡ in_order_lem refused rules (finished values)

-- with more rules where these are kept
pub ordered_after : (rules own : List Rule) (answer : Answer) → (Kept rules → Ordered own answer) → ((n : ℕ) → First n rules → answer ≡ refused n) → Ordered (rules ++ own) answer
ordered_after rules own answer none first = first_or_none rules
    (λ h.
    let o = none h in
    record { values = o.values; is = o.is ∙ sym (kept_goes refused rules _ h) ∙ sym (order_append refused rules own (finished o.values)) })
    (λ n f. record { values = []; is = first n f ∙ sym (first_fails refused rules _ f) ∙ sym (order_append refused rules own (finished [])) })

-- A walk that asks these rules in their order and then leaves these bytes.
pub record Follows {A : Type 0} (w : Step A) (rules : List Rule) (left : List ℕ) : Type 0 where
  pub value : A
  pub is : w ≡ in_order_lem fault rules (got value left)

pub order_then : {A B : Type 0} (rules : List Rule) (w : Step A) (go : A → List ℕ → Step B) → (in_order_lem fault rules w then go) ≡ in_order_lem fault rules (w then go)
order_then rules w go = order_through (λ z. z then go) fault fault (λ n. refl) rules w

module _ {A B : Type 0} where
  -- a walk of two parts, of which the second goes on with what the first got
  pub follows_from : (w : Step A) (rules : List Rule) (a : A) (left : List ℕ) (go : A → List ℕ → Step B) {more : List Rule} {end : List ℕ}
      → w ≡ in_order_lem fault rules (got a left) → Follows (go a left) more end → Follows (w then go) (rules ++ more) end
  follows_from w rules a left go {more} {end} e h = record {
    value = h.value;
    is =
        ap (λ z. z then go) e
        ∙ order_then rules (got a left) go
        ∙ ap (in_order_lem fault rules) h.is
        ∙ sym (order_append fault rules more (got h.value end));
  }

  pub follows_then : {w : Step A} {rules more : List Rule} {left end : List ℕ} (go : A → List ℕ → Step B)
      → Follows w rules left → ((a : A) → Follows (go a left) more end) → Follows (w then go) (rules ++ more) end
  follows_then {w} {rules} {left = left} go h k = follows_from w rules h.value left go h.is (k h.value)

  -- a walk that only wraps what was got
  pub follows_wrapped : {w : Step A} {rules : List Rule} {left : List ℕ} (f : A → B) → Follows w rules left → Follows (w then (λ a zs. got (f a) zs)) rules left
  follows_wrapped {rules = rules} f h = record { value = f h.value; is = ap (λ z. z then (λ a zs. got (f a) zs)) h.is ∙ order_then rules _ _ }

module _ {A : Type 0} where
  pub follows_got : (a : A) (left : List ℕ) → Follows (got a left) [] left
  unfolding in_order_lem
  follows_got a left = record { value = a; is = refl }

  pub follows_must : {w : Step A} {rules : List Rule} {left : List ℕ} (ok : Bool) (n : ℕ) → Follows w rules left → Follows (must ok n w) ((n asks ok) ∷ rules) left
  unfolding in_order_lem
  follows_must ok n h = record { value = h.value; is = ap (must ok n) h.is }
