-- Demand 1 (docs/DEMANDS.md) of `tpl_line`, from its contract alone: the first refusal number that applies, negated, with
-- what is lent as it was; if none applies, a number from 0 on. Assumes nothing.
use mathlib.Core.Path.{refl}
use mathlib.Core.List.{List}
use Prim.Native.Nat.{ℕ}
use lib.IntN.{ℤ}
use lib.ListN.{length}
use Rattle.calls.specs.Calls.{writing, sized}
use Rattle.calls.specs.Rules.{after_sheet, writing_rules}
use Rattle.calls.proofs.Refusals.{writing-refused}
use Rattle.calls.proofs.Demands.{writing_gives_the_first_refusal}
use Rattle.c_answer.specs.Returned.{Handed}
use Rattle.c_answer.proofs.Refused.{Tells, Leaves, written-first}

module _ (b : List ℕ) (r : ℤ) (before after : List ℕ) where
  pub tpl_line-first : (n : ℕ) → Handed (writing b n (length before)) before r after
      → Tells (after_sheet b (writing_rules n (length before))) r × Leaves r before after
  tpl_line-first n call =
      let a = writing b n (length before) in
      written-first r before after a (writing_gives_the_first_refusal b before after (sized a) n (refl, call.1)) (writing-refused b n (length before)) call
