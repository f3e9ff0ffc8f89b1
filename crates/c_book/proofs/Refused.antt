-- Demand 1 (docs/DEMANDS.md) of `tpl_book`, from its contract alone: the first refusal number that applies, negated, with what is lent as it was; if none
-- applies, a number from 0 on. Assumes nothing.
use mathlib.Core.List.{List}
use Prim.Native.Nat.{ℕ}
use lib.IntN.{ℤ}
use lib.ListN.{length}
use Rattle.calls.specs.Calls.{comparing, decision}
use Rattle.calls.specs.Rules.{comparing_rules}
use Rattle.calls.proofs.Comparing.{comparing-refused}
use Rattle.calls.proofs.BookOfTemplates.{comparing_gives_the_first_refusal}
use Rattle.c_answer.specs.Returned.{Decided}
use Rattle.c_answer.proofs.Refused.{Tells, Leaves, decided_first}
use Rattle.c_answer.proofs.Told.{decided_decides}

module _ (b : List ℕ) (r : ℤ) (before after : List ℕ) where
  pub tpl_book_first : Decided (comparing b (length before)) before r after → Tells (comparing_rules b (length before)) r × Leaves r before after
  tpl_book_first call =
      let a = comparing b (length before) in
      decided_first r before after a (comparing_gives_the_first_refusal b before after (decision a) (decided_decides a before after r call)) (comparing-refused b (length before)) call
