-- What the number tells that `tpl_search` returns: 1 comes with the first filling that clashes in the buffer; with a long enough buffer it is 1 exactly when
-- some filling clashes, and else 0. Assumes nothing.
use mathlib.Core.Path.{◌≡◌, sym, ap, ◌∙◌}
use mathlib.Core.Bool.{true}
use mathlib.Core.List.{List}
use Prim.Native.Nat.{ℕ, ◌*◌, ◌≤◌}
use native.Mathlib.Omega.{arith}
use mathlib.Core.Logic.{◌↔◌}
use lib.IntN.{ℤ, pos}
use lib.ListN.{length}
use Rattle.calls.specs.Calls.{verdict, searching, decision}
use Rattle.model.specs.Lists.{Bytes}
use Rattle.model.specs.Sheet.{Accepted, sheet_of}
use Rattle.model.specs.Word.{Substitution, Solves}
use Rattle.calls.proofs.Searching.{searching-refused}
use Rattle.calls.proofs.Demands.{search_answers_clash_exactly, search_else_answers_apart}
use Rattle.calls.proofs.FirstClash.{HandsOverTheFirst, search_gives_the_first-clash}
use Rattle.c_answer.specs.Returned.{returned_number, Decided}
use Rattle.c_answer.proofs.Told.{number_decided, decided_decides, returns_decision}

module _ (b before after : List ℕ) (r : ℤ) (call : Decided (searching b (length before)) before r after) where
  -- 1 comes with the first filling that clashes in the buffer.
  one_clash : r ≡ pos 1 → decision (searching b (length before)) ≡ verdict true
  one_clash e = number_decided (searching b (length before)) 1 (omega arith) (searching-refused b (length before)) (sym call.0 ∙ e)

  pub one_handed : Bytes b → r ≡ pos 1 → HandsOverTheFirst b before after
  one_handed y e = search_gives_the_first-clash b y before after _ (decided_decides (searching b (length before)) before after r call) (one_clash e)

  -- With a long enough buffer 1 is returned exactly when some filling clashes; and where none does, 0, with all bytes as they were.
  module _ (y : Bytes b) (ok : Accepted b) (enough : 9 * length (sheet_of b).limits ≤ length before) where
    pub one_exactly : (r ≡ pos 1) ↔ ((g : Substitution) × Solves (sheet_of b) g)
    one_exactly =
        let exactly = search_answers_clash_exactly b y before after _ (decided_decides (searching b (length before)) before after r call) ok enough in
        ((λ e. exactly.0 (one_clash e)), λ h. returns_decision (searching b (length before)) before after r call ∙ ap returned_number (exactly.1 h))

    pub zero_apart : (((g : Substitution) × Solves (sheet_of b) g) → ⊥) → (r ≡ pos 0) × (after ≡ before)
    zero_apart none =
        let apart = search_else_answers_apart b y before after _ (decided_decides (searching b (length before)) before after r call) ok enough none in
        (returns_decision (searching b (length before)) before after r call ∙ ap returned_number apart.0, apart.1)
