-- Demand 1 (docs/DEMANDS.md) of `tpl_search`, from its contract alone: the first refusal number that applies, negated, with
-- what is lent as it was; if none applies, a number from 0 on. Assumes nothing.
use mathlib.Core.List.{List, [], ◌∷◌}
use Prim.Native.Nat.{ℕ}
use lib.IntN.{ℤ}
use lib.ListN.{length}
use Rattle.calls.specs.Calls.{searching, decision}
use Rattle.calls.specs.Rules.{after_sheet, room_rule}
use Rattle.calls.proofs.Searching.{searching-refused}
use Rattle.calls.proofs.Demands.{searching_gives_the_first_refusal}
use Rattle.c_answer.specs.Returned.{Decided}
use Rattle.c_answer.proofs.Refused.{Tells, Leaves, decided_first}
use Rattle.c_answer.proofs.Told.{decided_decides}

module _ (b : List ℕ) (r : ℤ) (before after : List ℕ) where
  pub tpl_search_first : Decided (searching b (length before)) before r after → Tells (after_sheet b (λ s. room_rule (length before) s ∷ [])) r × Leaves r before after
  tpl_search_first call =
      let a = searching b (length before) in
      decided_first r before after a (searching_gives_the_first_refusal b before after (decision a) (decided_decides a before after r call)) (searching-refused b (length before)) call
