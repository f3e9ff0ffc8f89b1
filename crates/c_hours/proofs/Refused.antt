-- Demand 1 (docs/DEMANDS.md) of `tpl_book_hours`, from its contract alone: the first refusal number that applies, negated, with what is lent as it was; if none
-- applies, a number from 0 on. Assumes nothing.
use mathlib.Core.List.{List}
use Prim.Native.Nat.{ℕ}
use lib.IntN.{ℤ}
use lib.ListN.{length}
use Rattle.calls.specs.Calls.{comparing_hours, decision}
use Rattle.calls.specs.Rules.{comparing_hours_rules}
use Rattle.calls.proofs.Comparing.{comparing_hours_refused}
use Rattle.calls.proofs.ShopHours.{comparing_hours_gives_the_first_refusal}
use Rattle.c_answer.specs.Returned.{Decided}
use Rattle.c_answer.proofs.Refused.{Tells, Leaves, decided_first}
use Rattle.c_answer.proofs.Told.{decided_decides}

module _ (b h : List ℕ) (r : ℤ) (before after : List ℕ) where
  pub tpl_book_hours_first : Decided (comparing_hours b h (length before)) before r after → Tells (comparing_hours_rules b h (length before)) r × Leaves r before after
  tpl_book_hours_first call =
      let a = comparing_hours b h (length before) in
      decided_first r before after a (comparing_hours_gives_the_first_refusal b h before after (decision a) (decided_decides a before after r call)) (comparing_hours_refused b h (length before)) call
