-- Demand 1 (docs/DEMANDS.md) of `tpl_count` and `tpl_file`, from their contracts alone: the first refusal number that applies, negated, with
-- what is lent as it was; if none applies, a number from 0 on. Assumes nothing.
use mathlib.Core.Path.{◌≡◌, refl}
use mathlib.Core.List.{List, [], ◌∷◌}
use Prim.Native.Nat.{ℕ}
use lib.IntN.{ℤ}
use lib.ListN.{length}
use Rattle.calls.specs.Calls.{counting, filing, sized}
use Rattle.calls.specs.Rules.{sheet_rules, after_sheet, filing_rule}
use Rattle.calls.proofs.Refusals.{counting-refused}
use Rattle.calls.proofs.Filing.{filing-refused}
use Rattle.calls.proofs.Demands.{counting_gives_the_first_refusal}
use Rattle.calls.proofs.FileSize.{filing_gives_the_first_refusal}
use Rattle.c_answer.specs.Returned.{returned, lent_after, Handed}
use Rattle.c_answer.proofs.Refused.{Tells, Leaves, lent_first, written-first}

module _ (b : List ℕ) (r : ℤ) (before after : List ℕ) where
  pub tpl_count-first : (r ≡ returned (counting b)) × (after ≡ lent_after (counting b) before) → Tells (sheet_rules b) r × Leaves r before after
  tpl_count-first call = lent_first r before after (counting b) (counting_gives_the_first_refusal b) (counting-refused b) call

  pub tpl_file-first : Handed (filing b (length before)) before r after → Tells (after_sheet b (λ s. filing_rule (length before) s ∷ [])) r × Leaves r before after
  tpl_file-first call =
      let a = filing b (length before) in
      written-first r before after a (filing_gives_the_first_refusal b before after (sized a) (refl, call.1)) (filing-refused b (length before)) call
