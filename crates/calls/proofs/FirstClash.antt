-- Document 02, No. 1 (docs/02-change-requests.md), "The same clash on each laptop", each sentence above the theorems that state it. What is said of a search
-- is, as the demands are (Demands.antt), of bytes and of what its contract says. Assumes nothing.
use mathlib.Core.Path.{◌≡◌, sym, ap, ◌∙◌}
use mathlib.Core.Logic.{◌⊎◌, ◌↔◌}
use mathlib.Core.Bool.{true, false}
use mathlib.Core.List.{List, ◌++◌}
use Prim.Native.Nat.{ℕ, ◌*◌, ◌≤◌}
use lib.ListN.{length, take, drop}
use Rattle.model.specs.Lists.{Bytes}
use Rattle.model.specs.Sheet.{Sheet, Accepted, sheet_of}
use Rattle.model.specs.Word.{Substitution, text, Legal}
use Rattle.model.specs.Solvable.{solvable}
use Rattle.model.specs.Order.{Earlier, IsFirst, first_solution}
use Rattle.model.specs.Filling.{encode_filling}
use Rattle.calls.specs.Calls.{Answer, verdict, searching, Decides}
use Rattle.model.proofs.Order.{earlier_irreflexive, earlier_transitive, one_is-earlier}
use Rattle.model.proofs.ByFields.{ByFields, earlier_by_fields}
use Rattle.model.proofs.First.{first-only}
use Rattle.model.proofs.Unused.{Unasked, unasked_empty}
use Rattle.calls.proofs.Searching.{searching-verdict, verdict-told, clash-first, clash_handed, clash-taken}

-- "The order is: least total field length; then the shorter field 0, field 1 and so on; then the lower letter numbers, field by field from the left." Of two
-- fillings of a sheet, over all its fields; and it is an order: none comes before itself, what comes before an earlier one comes before it, and of two that
-- differ one comes before the other.
pub the_order_is : (s : Sheet) (g h : Substitution) → Legal s g → Legal s h → Earlier g h ↔ ByFields g h
the_order_is = earlier_by_fields

pub none-before_itself : (g : Substitution) → Earlier g g → ⊥
none-before_itself = earlier_irreflexive

pub before_an_earlier : (g h k : Substitution) → Earlier g h → Earlier h k → Earlier g k
before_an_earlier = earlier_transitive

pub one_before_the_other : (s : Sheet) (g h : Substitution) → Legal s g → Legal s h → (g ≡ h → ⊥) → Earlier g h ⊎ Earlier h g
one_before_the_other = one_is-earlier

-- "The search is to give the first clash." "When it answers clash, no clash comes before the one given.": the first 9 × V bytes are those of a filling that
-- clashes, and before which none comes; later bytes are unchanged.
pub record HandsOverTheFirst (b before after : List ℕ) : Type 0 where
  pub given : Substitution
  pub is_first : IsFirst (sheet_of b) given
  pub bytes : after ≡ encode_filling given ++ drop (9 * length (sheet_of b).limits) before

-- no sheet has two such fillings
pub first-is_one : (s : Sheet) (g h : Substitution) → IsFirst s g → IsFirst s h → g ≡ h
first-is_one s g h p q = first-only s g p ∙ sym (first-only s h q)

-- a field that stands in no template and counts in no rule is empty in it
pub unasked_field-is_empty : (s : Sheet) (g : Substitution) → IsFirst s g → (f : ℕ) → Unasked s f → length (text g f) ≡ 0
unasked_field-is_empty = unasked_empty

module _ (b : List ℕ) (y : Bytes b) where
  module _ (before after : List ℕ) (answer : Answer) (call : Decides (searching b (length before)) before answer after) where
    told : answer ≡ verdict true → Decides (searching b (length before)) before (verdict true) after
    told e = (sym e ∙ call.0, call.1)

    pub search_gives_the_first-clash : answer ≡ verdict true → HandsOverTheFirst b before after
    search_gives_the_first-clash e = record {
      given = first_solution (sheet_of b);
      is_first = clash-first b before after (told e);
      bytes = clash_handed b before after (told e) y;
    }

    -- "Apart is given for the same sheets as before.": for those that are accepted and have no clash, with a buffer that is long enough
    pub apart_as_before : (answer ≡ verdict false) ↔ (Accepted b × (9 * length (sheet_of b).limits ≤ length before) × (solvable (sheet_of b) ≡ false))
    apart_as_before = (
      (λ e. let t = verdict-told b (length before) false (sym e ∙ call.0) in (t.accepted, t.enough, t.decided)),
      λ h. call.0 ∙ searching-verdict b (length before) h.0 h.1 ∙ ap verdict h.2,
    )

  -- "The same clash on each laptop.": two searches of one accepted sheet, with buffers that are long enough, whatever stood in them
  module _ (ok : Accepted b) (before after : List ℕ) (answer : Answer) (call : Decides (searching b (length before)) before answer after) (enough : 9 * length (sheet_of b).limits ≤ length before)
      (before' after' : List ℕ) (answer' : Answer) (call' : Decides (searching b (length before')) before' answer' after') (enough' : 9 * length (sheet_of b).limits ≤ length before') where
    pub same-answer_on_each_laptop : answer ≡ answer'
    same-answer_on_each_laptop =
        call.0 ∙ searching-verdict b (length before) ok enough ∙ sym (searching-verdict b (length before') ok enough') ∙ sym call'.0

    pub same-clash_on_each_laptop : answer ≡ verdict true → take (9 * length (sheet_of b).limits) after ≡ take (9 * length (sheet_of b).limits) after'
    same-clash_on_each_laptop e =
        clash-taken b before after (told before after answer call e) y
        ∙ sym (clash-taken b before' after' (told before' after' answer' call' (sym same-answer_on_each_laptop ∙ e)) y)
