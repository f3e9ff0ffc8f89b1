-- Demand 1 (docs/DEMANDS.md) of a call for C, whatever the call: from an answer in the order of its rules, minus the first refusal number that applies
-- is returned, and what is lent stays as it was; if none applies, a number from 0 on is returned. Refusals count from 1, so the two never meet
-- (`tells`). Assumes nothing.
use mathlib.Core.Path.{◌≡◌, refl, sym, ap, ◌∙◌}
use mathlib.Core.List.{List, [], ◌∷◌}
use mathlib.Core.Logic.{◌↔◌}
use Prim.Native.Nat.{ℕ, zero, suc, ◌≤◌}
use native.Mathlib.Omega.{arith}
use lib.IntN.{ℤ, pos, neg_ℤ}
use Rattle.calls.specs.Calls.{Answer, refused, finished, sized, unnumbered, decision}
use Rattle.calls.specs.Rules.{Rule, Kept, First}
use Rattle.calls.proofs.Operations.{not_finished}
use Rattle.calls.proofs.Searching.{decision-refused}
use Rattle.calls.proofs.Demands.{InOrder, Unchanged}
use Rattle.c_answer.specs.Returned.{returned, lent_after, returned_number, Handed, Decided, array_after, Explained}
use Rattle.c_answer.proofs.Told.{negative, returns_decision}

pub record Tells (rules : List Rule) (r : ℤ) : Type 0 where
  -- "the call returns the first refusal number that applies, in the order given there"
  pub first : (n : ℕ) → First n rules ↔ ((1 ≤ n) × (r ≡ neg_ℤ (pos n)))
  -- "If none applies, the call finishes and is not refused."
  pub none : Kept rules ↔ ((n : ℕ) × (r ≡ pos n))

-- "and changes no lent byte"
abbrev pub Leaves : ℤ → List ℕ → List ℕ → Type 0
Leaves r before after = (n : ℕ) → 1 ≤ n → r ≡ neg_ℤ (pos n) → after ≡ before

same-negative : (m n : ℕ) → 1 ≤ m → 1 ≤ n → neg_ℤ (pos m) ≡ neg_ℤ (pos n) → m ≡ n
same-negative zero n h k e = absurd (omega arith)
same-negative (suc m) zero h k e = absurd (omega arith)
same-negative (suc m) (suc n) h k e = cc

-- A way to return an answer: a refusal as minus its number, and all else as a number from 0 on.
pub record Returns (return : Answer → ℤ) : Type 0 where
  pub minus : (n : ℕ) → return (refused n) ≡ neg_ℤ (pos n)
  pub number : List ℕ → ℕ
  pub plain : (values : List ℕ) → return (finished values) ≡ pos (number values)

module _ {rules : List Rule} {return : Answer → ℤ} (ways : Returns return) where
  pub tells : (a : Answer) → InOrder rules a → ((n : ℕ) → a ≡ refused n → 1 ≤ n) → Tells rules (return a)
  tells (refused m) o from_one = record {
    first = λ n. (
      (λ f. let e = (o.first n).0 f in (from_one n e, ap return e ∙ ways.minus n)),
      λ h. (o.first n).1 (ap refused (same-negative m n (from_one m refl) h.0 (sym (ways.minus m) ∙ h.1))),
    );
    none = (
      (λ kept. not_finished (o.none.0 kept).1),
      λ h. negative m (from_one m refl) (sym (ways.minus m) ∙ h.1),
    );
  }
  tells (finished values) o from_one = record {
    first = λ n. (
      (λ f. not_finished (sym ((o.first n).0 f))),
      λ h. negative n h.0 (sym h.1 ∙ ways.plain values),
    );
    none = ((λ kept. (ways.number values, ways.plain values)), λ h. o.none.1 (values, refl));
  }

pub as_zero : Returns returned
as_zero = record { minus = λ n. refl; number = λ values. 0; plain = λ values. refl }

pub as_number : Returns returned_number
as_number = record { minus = λ n. refl; number = first_of; plain = plain_of }
  where
    first_of : List ℕ → ℕ
    first_of [] = 0
    first_of (n ∷ others) = n

    plain_of : (values : List ℕ) → returned_number (finished values) ≡ pos (first_of values)
    plain_of [] = refl
    plain_of (n ∷ others) = refl

-- a buffer or an array that a refusal leaves
pub leaves : {return : Answer → ℤ} (ways : Returns return) (a : Answer) {before after : List ℕ} → ((n : ℕ) → a ≡ refused n → after ≡ before) → Leaves (return a) before after
leaves ways (refused m) kept n h e = kept m refl
leaves ways (finished values) kept n h e = negative n h (sym e ∙ ways.plain values)

lent_kept : (a : Answer) (before : List ℕ) (n : ℕ) → a ≡ refused n → lent_after a before ≡ before
lent_kept a before n e = rw e refl

array_kept : (a : Answer) (before : List ℕ) (n : ℕ) → a ≡ refused n → array_after a before ≡ before
array_kept a before n e = rw e refl

sized-refused : (a : Answer) (n : ℕ) → sized a ≡ refused n → a ≡ refused n
sized-refused (refused m) n e = e
sized-refused (finished values) n e = not_finished (sym e)

pub unnumbered-refused : (a : Answer) (n : ℕ) → unnumbered a ≡ refused n → a ≡ refused n
unnumbered-refused (refused m) n e = e
unnumbered-refused (finished values) n e = not_finished (sym e)

module _ (r : ℤ) (before after : List ℕ) where
  -- a call whose values go to a lent array, and one that writes into a lent buffer
  pub lent_first : {rules : List Rule} (a : Answer) → InOrder rules a → ((n : ℕ) → a ≡ refused n → 1 ≤ n) → (r ≡ returned a) × (after ≡ lent_after a before)
      → Tells rules r × Leaves r before after
  lent_first a o from_one call = rw (call.0, call.1) (tells as_zero a o from_one, leaves as_zero a (lent_kept a before))

  pub written-first : {rules : List Rule} (a : Answer) → InOrder rules (sized a) × Unchanged (sized a) before after → ((n : ℕ) → a ≡ refused n → 1 ≤ n)
      → Handed a before r after → Tells rules r × Leaves r before after
  written-first a d from_one call =
      rw call.0 (tells as_number (sized a) d.0 (λ n e. from_one n (sized-refused a n e)), leaves as_number (sized a) d.1)

  -- and one that explains what it answers in a lent array
  pub explained_first : {rules : List Rule} (a : Answer) → InOrder rules a → ((n : ℕ) → a ≡ refused n → 1 ≤ n) → Explained a before r after
      → Tells rules r × Leaves r before after
  explained_first a o from_one call = rw (call.0, call.1) (tells as_number a o from_one, leaves as_number a (array_kept a before))

  -- one that returns the first of its values, and hands the others over in a lent buffer
  pub decided_first : {rules : List Rule} (a : Answer) → InOrder rules (decision a) × Unchanged (decision a) before after → ((n : ℕ) → a ≡ refused n → 1 ≤ n)
      → Decided a before r after → Tells rules r × Leaves r before after
  decided_first a d from_one call =
      rw (returns_decision a before after r call)
      (tells as_number (decision a) d.0 (λ n e. from_one n (decision-refused a (sym e))), leaves as_number (decision a) d.1)
