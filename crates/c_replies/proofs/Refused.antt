-- Demand 1 (docs/DEMANDS.md) of `tpl_reply`, from its contract alone: the first refusal number that applies, negated, with
-- what is lent as it was; if none applies, a number from 0 on. Assumes nothing.
use mathlib.Core.Path.{refl, sym, ◌∙◌}
use mathlib.Core.List.{List}
use Prim.Native.Nat.{ℕ}
use lib.IntN.{ℤ}
use lib.ListN.{length}
use Rattle.calls.specs.Calls.{replying, unnumbered}
use Rattle.calls.specs.Rules.{after_sheet, replying_rules}
use Rattle.calls.proofs.Replying.{replying-refused}
use Rattle.calls.proofs.Demands.{replying_gives_the_first_refusal}
use Rattle.c_answer.specs.Returned.{HandedOver}
use Rattle.c_answer.proofs.Told.{same-returned}
use Rattle.c_answer.proofs.Refused.{Tells, Leaves, tells, as_zero, leaves, unnumbered-refused}

module _ (b : List ℕ) (r : ℤ) (before after : List ℕ) where
  pub tpl_reply_first : (t : List ℕ) → HandedOver (replying b t (length before)) before r after
      → Tells (after_sheet b (replying_rules t (length before))) r × Leaves r before after
  tpl_reply_first t call =
      let a = replying b t (length before) in
      let d = replying_gives_the_first_refusal b before after (unnumbered a) t (refl, call.1) in
      rw (call.0 ∙ sym (same-returned a)) (
        tells as_zero (unnumbered a) d.0 (λ n e. replying-refused b t (length before) n (unnumbered-refused a n e)),
        leaves as_zero (unnumbered a) d.1,
      )
