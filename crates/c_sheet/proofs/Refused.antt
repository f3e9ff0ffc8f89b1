-- Demand 1 (docs/DEMANDS.md) of `tpl_read`, `tpl_check` and `tpl_spell`, from their contracts alone: the first refusal number that applies, negated, with
-- what is lent as it was; if none applies, a number from 0 on. Assumes nothing.
use mathlib.Core.Path.{◌≡◌, refl, sym, ◌∙◌}
use mathlib.Core.List.{List}
use Prim.Native.Nat.{ℕ, ◌≤◌}
use lib.IntN.{ℤ}
use lib.ListN.{length}
use Rattle.calls.specs.Calls.{Answer, refused, reading, checking, spelling, sized}
use Rattle.calls.specs.Rules.{sheet_rules, filling_rules, after_sheet, spelling_rules}
use Rattle.calls.proofs.Refusals.{refusal_numbers, checking_cases, spelling-refused}
use Rattle.calls.proofs.Operations.{not_finished}
use Rattle.calls.proofs.Demands.{reading_gives_the_first_refusal, checking_gives_the_first_refusal, spelling_gives_the_first_refusal}
use Rattle.c_answer.specs.Returned.{returned, lent_after, Handed, Explained}
use Rattle.c_answer.proofs.Refused.{Tells, Leaves, lent_first, written-first, explained_first}

module _ (b : List ℕ) (r : ℤ) (before after : List ℕ) where
  pub tpl_read-first : (r ≡ returned (reading b)) × (after ≡ lent_after (reading b) before) → Tells (sheet_rules b) r × Leaves r before after
  tpl_read-first call = lent_first r before after (reading b) (reading_gives_the_first_refusal b) (λ n e. (refusal_numbers b n e).0) call

  pub tpl_spell-first : (p side : ℕ) (m : List ℕ) → Handed (spelling b p side m (length before)) before r after
      → Tells (after_sheet b (spelling_rules p side m (length before))) r × Leaves r before after
  tpl_spell-first p side m call =
      let a = spelling b p side m (length before) in
      written-first r before after a (spelling_gives_the_first_refusal b before after (sized a) p side m (refl, call.1)) (spelling-refused b p side m (length before)) call

  pub tpl_check_first : (m : List ℕ) → Explained (checking b m) before r after → Tells (after_sheet b (λ s. filling_rules s m)) r × Leaves r before after
  tpl_check_first m call = explained_first r before after (checking b m) (checking_gives_the_first_refusal b m) from_one call
    where
      same : {a : Answer} {k n : ℕ} → a ≡ refused k → a ≡ refused n → k ≡ n
      same c d = let q = sym c ∙ d in cc

      from_one : (n : ℕ) → checking b m ≡ refused n → 1 ≤ n
      from_one n e = checking_cases b m (λ c. not_finished (sym e ∙ c)) (λ why c. not_finished (sym e ∙ c)) (λ k c h. let z : k ≡ n = same c e in rw (sym z) h)
