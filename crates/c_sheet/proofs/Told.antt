-- What the numbers tell that these calls return: 0 of `tpl_read` is for an accepted sheet and no other, 1 of `tpl_check` for a filling that solves
-- its sheet and no other, 0 for one that does not, with the cause, and a number of `tpl_spell` from 0 on is a text's length. Assumes nothing.
use mathlib.Core.Path.{◌≡◌, sym, ap, ◌∙◌}
use mathlib.Core.List.{List, [], ◌∷◌}
use Prim.Native.Nat.{ℕ}
use native.Mathlib.Omega.{arith}
use lib.IntN.{ℤ, pos}
use Rattle.calls.specs.Calls.{finished, reading, checking, spelling, sized}
use Rattle.model.specs.Lists.{Bytes}
use Rattle.model.specs.Sheet.{Accepted, sheet_of}
use Rattle.model.specs.Word.{Substitution, Solves}
use Rattle.calls.proofs.Read.{reading-accepted, reading_counts}
use Rattle.calls.proofs.Refusals.{refusal_numbers, checking_cases, spelling-refused}
use Rattle.calls.proofs.Operations.{Sized}
use Rattle.calls.proofs.Passed.{FillingOf, answered, passed_solves, solves_passed}
use Rattle.calls.proofs.LeftOver.{FirstDiffers, FirstBroken, Told, a_clash, a_pair, a_rule, no_other_answer}
use Rattle.c_answer.specs.Returned.{returned, returned_number, array_after, Explained}
use Rattle.c_answer.proofs.Told.{zero_finished, negative, pos_equal, length-told}

-- `tpl_read`
pub zero_accepted : (b : List ℕ) → returned (reading b) ≡ pos 0 → Accepted b
zero_accepted b e = reading-accepted b (zero_finished (reading b) (λ n k. (refusal_numbers b n k).0) e).is

pub accepted_zero : (b : List ℕ) → Accepted b → returned (reading b) ≡ pos 0
accepted_zero b h = ap returned (reading_counts b h)

-- `tpl_check`: 1 for a clash, 0 for none, and both for nothing else
one_clash : (b m : List ℕ) → returned_number (checking b m) ≡ pos 1 → checking b m ≡ finished (1 ∷ [])
one_clash b m e =
    checking_cases b m (λ c. c)
    (λ why c. let z : ◌≡◌ {A = ℕ} 0 1 = pos_equal (sym (ap returned_number c) ∙ e) in absurd (omega arith))
    (λ n c h. negative n h (sym (ap returned_number c) ∙ e))

zero_none : (b m : List ℕ) → returned_number (checking b m) ≡ pos 0 → (why : List ℕ) × (checking b m ≡ finished (0 ∷ why))
zero_none b m e =
    checking_cases b m
    (λ c. let z : ◌≡◌ {A = ℕ} 1 0 = pos_equal (sym (ap returned_number c) ∙ e) in absurd (omega arith))
    (λ why c. (why, c))
    (λ n c h. negative n h (sym (ap returned_number c) ∙ e))

-- over `Solves`, both ways
pub record Solved (b m : List ℕ) : Type 0 where
  pub substitution : Substitution
  pub is_filling : FillingOf b m substitution
  pub solves : Solves (sheet_of b) substitution

pub one_solves : (b m : List ℕ) → Bytes b → returned_number (checking b m) ≡ pos 1 → Solved b m
one_solves b m y e =
    let c = one_clash b m e in
    let a = answered b m y c in
    record { substitution = a.substitution; is_filling = a.is_filling; solves = passed_solves b m y a.substitution a.is_filling c }

pub solves_one : (b m : List ℕ) → Bytes b → Solved b m → returned_number (checking b m) ≡ pos 1
solves_one b m y h = ap returned_number (solves_passed b m y h.substitution h.is_filling h.solves)

pub record NotSolved (b m : List ℕ) : Type 0 where
  pub substitution : Substitution
  pub is_filling : FillingOf b m substitution
  pub fails : Solves (sheet_of b) substitution → ⊥

pub zero_fails : (b m : List ℕ) → Bytes b → returned_number (checking b m) ≡ pos 0 → NotSolved b m
zero_fails b m y e =
    let a = answered b m y (zero_none b m e).1 in
    record {
      substitution = a.substitution;
      is_filling = a.is_filling;
      fails = λ h. let z : ◌≡◌ {A = ℕ} 1 0 = pos_equal (sym (ap returned_number (solves_passed b m y a.substitution a.is_filling h)) ∙ e) in absurd (omega arith);
    }

-- The five numbers of `tpl_check`: with 1 they are as they were, with 0 they tell the cause.
module _ (b m : List ℕ) (y : Bytes b) (r : ℤ) (before after : List ℕ) (call : Explained (checking b m) before r after) where
  pub one_untouched : r ≡ pos 1 → after ≡ before
  one_untouched e = call.1 ∙ ap (λ a. array_after a before) (one_clash b m (sym call.0 ∙ e))

  pub data Why : Type 0 where
    pair_differs : (g : Substitution) (p n side rest : ℕ) → FillingOf b m g → after ≡ 1 ∷ p ∷ n ∷ side ∷ rest ∷ [] → FirstDiffers (sheet_of b) g p n side rest → Why
    rule_broken : (g : Substitution) (k : ℕ) → FillingOf b m g → after ≡ 2 ∷ k ∷ 0 ∷ 0 ∷ 0 ∷ [] → FirstBroken (sheet_of b) g k → Why

  pub zero_tells_why : r ≡ pos 0 → Why
  zero_tells_why e =
      let c = (zero_none b m (sym call.0 ∙ e)).1 in
      let a = answered b m y c in
      by_answer a.substitution a.is_filling c (no_other_answer b m y a.substitution a.is_filling)
    where
      by_answer : {why : List ℕ} (g : Substitution) (f : FillingOf b m g) → checking b m ≡ finished (0 ∷ why) → Told b m y g f → Why
      by_answer g f c (a_clash e k) = let q = sym c ∙ e in let z : ◌≡◌ {A = ℕ} 0 1 = cc in absurd (omega arith)
      by_answer g f c (a_pair p n side rest e k) = pair_differs g p n side rest f (call.1 ∙ ap (λ a. array_after a before) e) k
      by_answer g f c (a_rule q e k) = rule_broken g q f (call.1 ∙ ap (λ a. array_after a before) e) k

-- `tpl_spell`
pub length-spelled : (b : List ℕ) (p side : ℕ) (m : List ℕ) (room n : ℕ) → returned_number (sized (spelling b p side m room)) ≡ pos n → Sized (spelling b p side m room) n
length-spelled b p side m room n e = length-told (spelling b p side m room) n (spelling-refused b p side m room) e
