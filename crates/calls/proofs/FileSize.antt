-- Document 02, No. 4 (docs/02-change-requests.md), "File size to the byte", what it asks above the theorems that state it; and the call that writes the whole
-- file. What is said of a call is, as the demands are (Demands.antt), of bytes and of what its contract says. Assumes nothing.
use mathlib.Core.Path.{◌≡◌, sym, ap, subst, ◌∙◌}
use mathlib.Core.Logic.{◌↔◌}
use mathlib.Core.List.{List, [], ◌∷◌, ◌++◌}
use Prim.Native.Nat.{ℕ, suc, ◌*◌, ◌<◌, ◌≤◌}
use native.Mathlib.Omega.{arith}
use lib.Dec.{ltb}
use lib.ListN.{length, take, drop}
use borrow.Author.Tests.{ltb-true, ltb-false}
use Rattle.model.specs.Lists.{each, up_to, total, Bytes}
use Rattle.model.specs.Sheet.{Accepted, sheet_of}
use Rattle.formula.specs.Clause.{ids}
use Rattle.formula.specs.Numbering.{variables}
use Rattle.formula.specs.Dimacs.{line, file, file_size}
use Rattle.calls.specs.Calls.{Answer, refused, finished, sized, Writes, counting, writing, filing}
use Rattle.calls.specs.Rules.{after_sheet, filing_rule}
use Rattle.calls.specs.Report.{clauses_printed}
use Rattle.model.proofs.Lists.{by_test}
use Rattle.model.proofs.Keeping.{total-same, loop_same}
use Rattle.model.proofs.Known.{accepted_in_range}
use Rattle.formula.proofs.Lines.{line-short, file_size_lem, file_narrow}
use Rattle.calls.proofs.Operations.{not_finished, sheet_finished, counting_counts, writing-line}
use Rattle.calls.proofs.Filing.{filing-room, filing-file, filing_prefix}
use Rattle.calls.proofs.Sizes.{counting_exact}
use Rattle.calls.proofs.Printing.{clauses_accepted}
use Rattle.model.proofs.Computed.{P}
use Rattle.calls.proofs.Answers.{count_answers}
use Rattle.calls.proofs.Demands.{InOrder, Unchanged, in_order, written_unchanged}
use Rattle.calls.proofs.FirstRefusals.{filing_ordered, sized_ordered}

-- what an answer has: the one number, if it is one; all its values
abbrev only_number : Answer → ℕ
only_number (finished (n ∷ [])) = n
only_number (finished []) = 0
only_number (finished (n ∷ k ∷ others)) = 0
only_number (refused n) = 0

abbrev values_of : Answer → List ℕ
values_of (finished values) = values
values_of (refused n) = []

abbrev first_of : List Answer → Answer
first_of [] = refused 0
first_of (a ∷ others) = a

-- "For sheet P it is 69"
pub for_sheet_P : counting P ≡ finished (6 ∷ 8 ∷ 69 ∷ [])
for_sheet_P = ap first_of count_answers

module _ (b : List ℕ) (ok : Accepted b) where
  -- "The size is now to be exactly the sum of all line lengths": counting's third value, of the lines that document 01 defines. "found without writing a line":
  -- counting is lent no buffer, and `size_file`, which finds it, calls nothing that writes.
  pub the_sum_of_all-line_lengths :
      let s = sheet_of b in
      counting b ≡ finished (length (variables s) ∷ length (ids s) ∷ total (suc (length (ids s))) (λ n. length (line s n)) ∷ [])
  unfolding file_size
  the_sum_of_all-line_lengths = counting_counts b ok

  -- it is the length of what the clause program prints
  pub the_size_of_the_printed-file : file_size (sheet_of b) ≡ length (clauses_printed b)
  the_size_of_the_printed-file = file_size_lem (sheet_of b) ∙ sym (ap length (clauses_accepted b ok))

  -- The whole file in one call, beyond the request: a buffer of the size is long enough, and no shorter one is.
  pub too_short_exactly : (room : ℕ) → (filing b room ≡ refused 29) ↔ (room < file_size (sheet_of b))
  too_short_exactly room =
      let e = file_size_lem (sheet_of b) in (
        (λ q. by_test (ltb room (file_size (sheet_of b)))
            (λ t. ltb-true room _ t)
            (λ t. let h = ltb-false room _ t in not_finished (sym q ∙ filing-file b room ok (omega arith)))),
        λ h. filing-room b room ok (omega arith),
      )

  -- the call then writes lines 0 to C one after the other, leaves later bytes as they were, and answers the size
  pub the_file-byte_for_byte : (before after : List ℕ) (answer : Answer) → Writes (filing b (length before)) before answer after → file_size (sheet_of b) ≤ length before
      → let s = sheet_of b in
      (answer ≡ finished (file_size s ∷ [])) × (after ≡ each (up_to (suc (length (ids s)))) (line s) ++ drop (file_size s) before)
  unfolding file
  the_file-byte_for_byte before after answer call h =
      let e = file_size_lem (sheet_of b) in
      rw e (subst (λ a. Writes a before answer after) (filing-file b (length before) ok (omega arith)) call)

  -- what it writes is what the clause program prints
  pub the_printed-file : (room : ℕ) → file_size (sheet_of b) ≤ room → filing b room ≡ finished (clauses_printed b)
  the_printed-file room h =
      let e = file_size_lem (sheet_of b) in
      filing-file b room ok (omega arith) ∙ ap finished (sym (clauses_accepted b ok))

  -- Of sheets as bytes: line by line, where each line has room, the calls come to the same size and the same file. A line has at most 38 bytes, so that
  -- "80 bytes a line" are always more than twice the size.
  module _ (y : Bytes b) where
    one_line : (room : ℕ) → 80 ≤ room → (n : ℕ) → n < suc (length (ids (sheet_of b))) → writing b n room ≡ finished (line (sheet_of b) n)
    one_line room h n l =
        let few = line-short (sheet_of b) (accepted_in_range b y ok) n (omega arith) in
        writing-line b n room ok (omega arith) (omega arith)

    pub the_sum_of_all_answers : (room : ℕ) → 80 ≤ room → file_size (sheet_of b) ≡ total (suc (length (ids (sheet_of b)))) (λ n. only_number (sized (writing b n room)))
    unfolding file_size
    the_sum_of_all_answers room h = total-same (suc (length (ids (sheet_of b)))) _ _ (λ n l. sym (ap (λ a. only_number (sized a)) (one_line room h n l)))

    pub the_file-line_by_line : (room : ℕ) → file_size (sheet_of b) ≤ room → filing b room ≡ finished (each (up_to (suc (length (ids (sheet_of b))))) (λ n. values_of (writing b n 80)))
    unfolding file
    the_file-line_by_line room h =
        let e = file_size_lem (sheet_of b) in
        filing-file b room ok (omega arith)
        ∙ ap finished (loop_same (line (sheet_of b)) (λ n. values_of (writing b n 80)) (suc (length (ids (sheet_of b)))) (λ n l. sym (ap values_of (one_line 80 (omega arith) n l))))

    pub eighty_a-line-is_too_large : 2 * file_size (sheet_of b) < suc (length (ids (sheet_of b))) * 80
    eighty_a-line-is_too_large = omega (arith, file_size_lem (sheet_of b), file_narrow (sheet_of b) (accepted_in_range b y ok))

-- As a caller goes: n is the size that counting answered; in a buffer of n bytes or more the file is written, in a shorter one it is not.
module _ (b : List ℕ) (v c n room : ℕ) (counted : counting b ≡ finished (v ∷ c ∷ n ∷ [])) where
  is-accepted : Accepted b
  unfolding counting
  is-accepted = sheet_finished b _ counted

  pub counted-is-printed : n ≡ length (clauses_printed b)
  counted-is-printed = omega (arith, counting_exact b counted, file_size_lem (sheet_of b), the_size_of_the_printed-file b is-accepted)

  pub enough_as_counted : n ≤ room → filing b room ≡ finished (clauses_printed b)
  enough_as_counted h = the_printed-file b is-accepted room (omega (arith, counting_exact b counted, file_size_lem (sheet_of b)))

  pub too_short_as_counted : room < n → filing b room ≡ refused 29
  too_short_as_counted h = (too_short_exactly b is-accepted room).1 (omega (arith, counting_exact b counted, file_size_lem (sheet_of b)))

-- the first 160 bytes of a sheet decide
pub a_prefix_decides : (b : List ℕ) (room : ℕ) → filing b room ≡ filing (take 160 b) room
a_prefix_decides = filing_prefix

-- Demand 1 of it: the sheet's refusals, then 29; and no lent byte changes.
pub filing_gives_the_first_refusal : (b before after : List ℕ) (answer : Answer) → Writes (filing b (length before)) before answer after
    → InOrder (after_sheet b (λ s. filing_rule (length before) s ∷ [])) answer × Unchanged answer before after
filing_gives_the_first_refusal b before after answer call =
    (rw call.0 (in_order (sized_ordered (filing_ordered b (length before)))), written_unchanged (filing b (length before)) call)
