-- What a number that is returned tells of an answer, whatever the call: 0 where it has to be a finished answer, a length where values are written.
-- Refusals count from 1, so that minus one of them is never 0 or more. Assumes nothing.
use mathlib.Core.Path.{◌≡◌, refl, sym, ap, ◌∙◌}
use mathlib.Core.List.{List, [], ◌∷◌}
use Prim.Native.Nat.{ℕ, zero, suc, ◌≤◌}
use native.Mathlib.Omega.{arith}
use lib.IntN.{ℤ, pos, neg_ℤ}
use Rattle.calls.specs.Calls.{Answer, refused, finished, sized, unnumbered, decision, Decides}
use Rattle.calls.proofs.Operations.{Finished, Sized}
use Rattle.c_answer.specs.Returned.{returned, returned_number, Decided}

pub zero_finished : (a : Answer) → ((n : ℕ) → a ≡ refused n → 1 ≤ n) → returned a ≡ pos 0 → Finished a
zero_finished (finished vs) h e = record { values = vs; is = refl }
zero_finished (refused zero) h e = absurd (let k = h 0 refl in omega arith)
zero_finished (refused (suc n)) h e = let z : ◌≡◌ {A = ℕ} 0 1 = cc in absurd (omega arith)

pub negative : {P : Type 0} {v : ℕ} (n : ℕ) → 1 ≤ n → neg_ℤ (pos n) ≡ pos v → P
negative zero h e = absurd (omega arith)
negative (suc n) h e = let z : ◌≡◌ {A = ℕ} 0 1 = cc in absurd (omega arith)

pub pos_equal : {a c : ℕ} → pos a ≡ pos c → a ≡ c
pos_equal e = cc

-- a number of 0 or more is the length of the values that were written
pub length-told : (a : Answer) (n : ℕ) → ((k : ℕ) → a ≡ refused k → 1 ≤ k) → returned_number (sized a) ≡ pos n → Sized a n
length-told (refused k) n h e = negative k (h k refl) e
length-told (finished values) n h e = record { text = values; is = refl; count = pos_equal e }

-- a call that decides returns what it decides
pub same-decision : (a : Answer) → returned_number (decision a) ≡ returned_number a
same-decision (refused n) = refl
same-decision (finished []) = refl
same-decision (finished (v ∷ others)) = refl

pub decision-number : (a : Answer) {answer : Answer} → answer ≡ decision a → returned_number answer ≡ returned_number a
decision-number a e = ap returned_number e ∙ same-decision a

-- a call that answers no number returns the same
pub same-returned : (a : Answer) → returned (unnumbered a) ≡ returned a
same-returned (refused n) = refl
same-returned (finished values) = refl

-- an answer that has a first value, and returns a number, decides it
pub counted-decision : (a : Answer) (n : ℕ) → ((k : ℕ) → a ≡ refused k → 1 ≤ k) → (a ≡ finished [] → ⊥) → returned_number a ≡ pos n → decision a ≡ finished (n ∷ [])
counted-decision (refused k) n from_one some e = negative k (from_one k refl) e
counted-decision (finished []) n from_one some e = absurd (some refl)
counted-decision (finished (v ∷ others)) n from_one some e = ap (λ m. finished (m ∷ [])) (pos_equal e)

-- and so does one that returns a number from 1 on
pub number_decided : (a : Answer) (v : ℕ) → 1 ≤ v → ((n : ℕ) → a ≡ refused n → 1 ≤ n) → returned_number a ≡ pos v → decision a ≡ finished (v ∷ [])
number_decided a v h from_one e = counted-decision a v from_one (λ none. let z : 0 ≡ v = pos_equal (sym (ap returned_number none) ∙ e) in omega arith) e

-- a call that returns a decision and hands the rest over does what `Decides` says
module _ (a : Answer) (before after : List ℕ) (r : ℤ) (call : Decided a before r after) where
  pub decided_decides : Decides a before (decision a) after
  decided_decides = (refl, call.1)

  pub returns_decision : r ≡ returned_number (decision a)
  returns_decision = call.0 ∙ sym (same-decision a)
