-- Searching: the answer, by the first test that fails, and what a search does, for whoever shows that a call is one: a clash hands over the first
-- solution, and else nothing is changed. And what the search program prints. Assumes nothing.
use mathlib.Core.Path.{◌≡◌, refl, sym, ap, ◌∙◌}
use mathlib.Core.Bool.{Bool, true, false}
use mathlib.Core.List.{List, [], ◌∷◌, ◌++◌}
use Prim.Native.Nat.{ℕ, ◌*◌, ◌<◌, ◌≤◌}
use native.Mathlib.Omega.{arith}
use lib.Dec.{leb}
use lib.ListN.{length, take, drop}
use lib.Seq.{take_at}
use borrow.Author.Tests.{le-leb, lt-leb, leb-true}
use Rattle.model.specs.Lists.{Bytes, pick}
use Rattle.model.specs.Sheet as sheet
use Rattle.model.specs.Sheet.{Reading, read, Accepted, sheet_of}
use Rattle.model.specs.Word.{Substitution, Solves}
use Rattle.model.specs.Solvable.{solvable}
use Rattle.model.specs.Order.{IsFirst, first_solution}
use Rattle.model.specs.Filling.{filling, encode_filling, substitution_in}
use Rattle.calls.specs.Calls.{Answer, refused, finished, of_sheet, reading, verdict, checking, written, search_values, searching_of, searching, decision, following, Decides}
use Rattle.calls.specs.Report.{report, refused_line, apart_line, answer_text, search_text, search_printed}
use Rattle.model.proofs.Reading.{read_prefix}
use Rattle.model.proofs.Known.{accepted_in_range, accepted_counts}
use Rattle.model.proofs.Fillings.{legal-sized, filling_reads}
use Rattle.model.proofs.Solvable.{solvable_in, solvable_out, none_unsolvable}
use Rattle.model.proofs.First.{first-is-first, first-only}
use Rattle.calls.proofs.Passed.{verdict-same, solution_checks}
use Rattle.calls.proofs.Operations.{not_finished, sheet_refused, sheet_accepted, sheet_finished, required, Finished}
use Rattle.calls.proofs.Refusals.{not_zero, not_zero_require, not_zero_sheet}

-- The answer, by the first test that fails.
module _ (b : List ℕ) (room : ℕ) where
  pub searching_sheet : (n : ℕ) → reading b ≡ refused n → searching b room ≡ refused n
  unfolding searching
  searching_sheet n e = sheet_refused b n _ e

  module _ (ok : Accepted b) where
    pub searching-room : room < 9 * length (sheet_of b).limits → searching b room ≡ refused 27
    unfolding searching searching_of
    searching-room h = sheet_accepted b _ ok ∙ rw (lt-leb (9 * length (sheet_of b).limits) room h)

    pub searching-finished : 9 * length (sheet_of b).limits ≤ room → searching b room ≡ finished (search_values (sheet_of b))
    unfolding searching searching_of
    searching-finished h = sheet_accepted b _ ok ∙ rw (le-leb (9 * length (sheet_of b).limits) room h)

-- 0 is the number of no refusal.
pub searching-refused : (b : List ℕ) (room n : ℕ) → searching b room ≡ refused n → 1 ≤ n
unfolding searching searching_of
searching-refused b room = not_zero (searching b room) (not_zero_sheet b _ (λ s.
    not_zero_require (leb (9 * length s.limits) room) 27 _ (omega arith) tt))

-- The first 160 bytes decide.
pub searching_prefix : (b : List ℕ) (room : ℕ) → searching b room ≡ searching (take 160 b) room
unfolding searching
searching_prefix b room = ap (λ r. of_sheet r (λ s. searching_of s room)) (read_prefix b)

-- What is decided: a refusal, or whether there is a solution.
pub decision-refused : (a : Answer) {n : ℕ} → refused n ≡ decision a → a ≡ refused n
decision-refused (refused k) e = sym e
decision-refused (finished vs) e = not_finished e

decision-finished : (a : Answer) {vs : List ℕ} → finished vs ≡ decision a → Finished a
decision-finished (refused k) e = not_finished (sym e)
decision-finished (finished vs) e = record { values = vs; is = refl }

decision-verdict : (t : Bool) (m : List ℕ) → decision (finished (pick t (1 ∷ m) (0 ∷ []))) ≡ verdict t
decision-verdict true m = refl
decision-verdict false m = refl

module _ (b : List ℕ) (room : ℕ) where
  pub searching-verdict : Accepted b → 9 * length (sheet_of b).limits ≤ room → decision (searching b room) ≡ verdict (solvable (sheet_of b))
  searching-verdict ok enough = ap decision (searching-finished b room ok enough) ∙ decision-verdict (solvable (sheet_of b)) (encode_filling (first_solution (sheet_of b)))

  -- what a verdict tells: the answer's values too
  pub record Told (t : Bool) : Type 0 where
    pub accepted : Accepted b
    pub enough : 9 * length (sheet_of b).limits ≤ room
    pub decided : solvable (sheet_of b) ≡ t
    pub values : searching b room ≡ finished (pick t (1 ∷ encode_filling (first_solution (sheet_of b))) (0 ∷ []))

  pub verdict-told : (t : Bool) → verdict t ≡ decision (searching b room) → Told t
  unfolding searching searching_of
  verdict-told t e =
      let f = (decision-finished (searching b room) e).is in
      let ok = sheet_finished b _ f in
      let enough = leb-true (9 * length (sheet_of b).limits) room (required (leb (9 * length (sheet_of b).limits) room) 27 _ (sym (sheet_accepted b _ ok) ∙ f)).0 in
      let decided = verdict-same (solvable (sheet_of b)) t (sym (searching-verdict ok enough) ∙ sym e) in
      let values = ap (λ u. finished (pick u (1 ∷ encode_filling (first_solution (sheet_of b))) (0 ∷ []))) decided in
      record { accepted = ok; enough = enough; decided = decided; values = searching-finished b room ok enough ∙ values }

-- What a search does, by its answer.
module _ (b before : List ℕ) where
  pub search_refused : (n : ℕ) → searching b (length before) ≡ refused n → Decides (searching b (length before)) before (refused n) before
  search_refused n e = rw e (refl, refl)

  module _ (ok : Accepted b) (enough : 9 * length (sheet_of b).limits ≤ length before) where
    pub search_apart : ((g : Substitution) → Solves (sheet_of b) g → ⊥) → Decides (searching b (length before)) before (verdict false) before
    search_apart none = rw (searching-finished b (length before) ok enough, none_unsolvable (sheet_of b) none) (refl, refl)

    pub search_clash : Bytes b → (after : List ℕ) (g : Substitution) → IsFirst (sheet_of b) g
        → after ≡ encode_filling g ++ drop (9 * length (sheet_of b).limits) before → Decides (searching b (length before)) before (verdict true) after
    search_clash y after g first e =
        let size = legal-sized (sheet_of b) g (accepted_in_range b y ok) first.is_solution.is_legal in
        rw (searching-finished b (length before) ok enough, solvable_in (sheet_of b) g first.is_solution, sym (first-only (sheet_of b) g first))
        (refl, e ∙ ap (λ n. encode_filling g ++ drop n before) (sym size))

-- What is known where the answer was clash: the sheet is accepted, the first 9 × V bytes are those of the first solution, which is one, and later ones are
-- as before.
module _ (b before after : List ℕ) (call : Decides (searching b (length before)) before (verdict true) after) where
  told : Told b (length before) true
  told = verdict-told b (length before) true call.0

  pub clash-accepted : Accepted b
  clash-accepted = told.accepted

  pub clash-first : IsFirst (sheet_of b) (first_solution (sheet_of b))
  clash-first = let g = solvable_out (sheet_of b) told.decided in first-is-first (sheet_of b) g.0 g.1

  module _ (y : Bytes b) where
    clash-sized : length (encode_filling (first_solution (sheet_of b))) ≡ 9 * length (sheet_of b).limits
    clash-sized = legal-sized (sheet_of b) (first_solution (sheet_of b)) (accepted_in_range b y clash-accepted) clash-first.is_solution.is_legal

    pub clash_handed : after ≡ encode_filling (first_solution (sheet_of b)) ++ drop (9 * length (sheet_of b).limits) before
    clash_handed =
        call.1
        ∙ ap (λ a. written (following a) before) told.values
        ∙ ap (λ n. encode_filling (first_solution (sheet_of b)) ++ drop n before) clash-sized

    pub clash-taken : take (9 * length (sheet_of b).limits) after ≡ encode_filling (first_solution (sheet_of b))
    clash-taken = ap (take (9 * length (sheet_of b).limits)) clash_handed ∙ take_at (encode_filling (first_solution (sheet_of b))) _ _ clash-sized

    pub clash_checks : checking b (take (9 * length (sheet_of b).limits) after) ≡ verdict true
    clash_checks = ap (checking b) clash-taken ∙ solution_checks b y clash-accepted (first_solution (sheet_of b)) clash-first.is_solution

-- Where it was not, nothing was changed.
pub apart_unchanged : (b before after : List ℕ) → Decides (searching b (length before)) before (verdict false) after → after ≡ before
apart_unchanged b before after call =
    call.1 ∙ ap (λ a. written (following a) before) (verdict-told b (length before) false call.0).values

pub refused_unchanged : (a : Answer) {before after : List ℕ} {answer : Answer} → Decides a before answer after → (n : ℕ) → answer ≡ refused n → after ≡ before
refused_unchanged a {before} call n e = call.1 ∙ ap (λ a. written (following a) before) (decision-refused a (sym e ∙ call.0))

-- What the search program prints, with room for any filling, by the answer.
module _ (b : List ℕ) where
  printed-accepted : Accepted b → search_printed b ≡ search_text (sheet_of b)
  unfolding search_printed
  printed-accepted ok = ap answer_text (sheet_accepted b (λ s. finished (search_text s)) ok)

  pub prints_refused : {n : ℕ} → refused n ≡ decision (searching b 54) → search_printed b ≡ refused_line n
  unfolding searching searching_of search_printed Accepted sheet_of
  prints_refused {n} e = by (read b) (λ ok. omega (arith, (accepted_counts b ok).of_fields)) (decision-refused (searching b 54) e)
    where
      by : (r : Reading) → (sheet.is_accepted r ≡ true → 9 * length (sheet.sheet_in r).limits ≤ 54) → of_sheet r (λ s. searching_of s 54) ≡ refused n → answer_text (of_sheet r (λ s. finished (search_text s))) ≡ refused_line n
      by (sheet.accepted s) few q = not_finished {vs = search_values s} (sym q ∙ rw (le-leb (9 * length s.limits) 54 (few refl)))
      by (sheet.refused k) few q = let z : k ≡ n = cc in ap refused_line z

  pub prints_apart : verdict false ≡ decision (searching b 54) → search_printed b ≡ apart_line
  prints_apart e = let t = verdict-told b 54 false e in printed-accepted t.accepted ∙ ap (λ u. pick u (report (sheet_of b) (first_solution (sheet_of b))) apart_line) t.decided

  -- the report of the bytes that were handed over
  pub prints_clash : Bytes b → (before after : List ℕ) → Decides (searching b (length before)) before (verdict true) after
      → let m = take (9 * length (sheet_of b).limits) after in
      search_printed b ≡ report (sheet_of b) (substitution_in (filling (sheet_of b) m))
  prints_clash y before after call =
      let s = sheet_of b in
      let ok = clash-accepted b before after call in
      let first = (clash-first b before after call).is_solution in
      let reads = ap (filling s) (clash-taken b before after call y) ∙ filling_reads s (first_solution s) (accepted_in_range b y ok) first.is_legal in
      printed-accepted ok
      ∙ ap (λ u. pick u (report s (first_solution s)) apart_line) (solvable_in s (first_solution s) first)
      ∙ ap (λ w. report s (substitution_in w)) (sym reads)

pub search_prints_prefix : (b : List ℕ) → search_printed b ≡ search_printed (take 160 b)
unfolding search_printed
search_prints_prefix b = ap (λ r. answer_text (of_sheet r (λ s. finished (search_text s)))) (read_prefix b)
