-- The three demands (docs/DEMANDS.md), word for word, each sentence above the theorems that state it. Each is of bytes and of what the public calls'
-- contracts say (specs/Calls): a call with the sheet b answered `answer`, and left `after` in a lent buffer where `before` stood. Assumes nothing.
use mathlib.Core.Path.{◌≡◌, refl, sym, ap, ap₂, subst, ◌∙◌}
use mathlib.Core.Logic.{◌↔◌}
use mathlib.Core.Bool.{true, false}
use mathlib.Core.List.{List, [], ◌∷◌, ◌++◌, map}
use Prim.Native.Nat.{ℕ, suc, ◌*◌, ◌<◌, ◌≤◌}
use lib.IntN.{pos}
use lib.ListN.{length, take, drop, take-append-drop}
use Rattle.model.specs.Lists.{Bytes, from}
use Rattle.model.specs.Sheet.{Sheet, template, read, encode, is_accepted, Accepted, sheet_of}
use Rattle.model.specs.Range.{InRange}
use Rattle.model.specs.Word.{Substitution, letter_bytes, spell, Solves}
use Rattle.model.specs.Solvable.{solvable}
use Rattle.model.specs.Order.{first_solution}
use Rattle.model.specs.Filling.{encode_filling}
use Rattle.formula.specs.Clause.{ids, id_at}
use Rattle.formula.specs.Numbering.{variables, number, clause}
use Rattle.formula.specs.Dimacs.{decimal, value_of, problem_line, line, numbers, file_size}
use Rattle.formula.specs.Assignment.{Assignment, Satisfies, spelled}
use Rattle.calls.specs.Reply.{Lists}
use Rattle.calls.specs.Calls.{Answer, refused, finished, reading, verdict, checking, spelling, Writes, searching, Decides, counting, writing, HandsOver, replying}
use Rattle.calls.specs.Rules.{Rule, Kept, First, sheet_rules, filling_rules, after_sheet, spelling_rules, room_rule, writing_rules, replying_rules}
use Rattle.model.proofs.Lists.{append_in, append_out}
use Rattle.model.proofs.Reading.{read-encode}
use Rattle.model.proofs.Known.{accepted_bytes, accepted_in_range}
use Rattle.calls.proofs.Read.{reading-accepted, reading_counts}
use Rattle.calls.proofs.Operations.{not_finished, writing-line, counting_counts}
use Rattle.calls.proofs.Passed.{verdict-same, FillingOf, answered, checking_judges, passed_solves, solves_passed, spelled-text}
use Rattle.formula.proofs.Numbering.{numbering, variable_count_lem}
use Rattle.formula.proofs.Figures.{decimal-value}
use Rattle.formula.proofs.Lines.{numbers-line}
use Rattle.model.proofs.Solvable.{solvable_in, solvable_out, none_unsolvable}
use Rattle.calls.proofs.Searching as searches
use Rattle.formula.proofs.Satisfiable as clauses
use Rattle.calls.proofs.Untrusted as replies
use Rattle.calls.proofs.Listings.{has_listing}
use Rattle.calls.proofs.Ordered.{Ordered, kept_goes, first_fails, first_or_none}
use Rattle.calls.proofs.FirstRefusals.{reading_ordered, checking_ordered, spelling_ordered, searching_ordered, counting_ordered, writing_ordered, replying_ordered, sized_ordered, unnumbered_ordered, decision_ordered}

-- Demand 1, of all inputs. The rules of each call stand in document 01's order in specs/Rules.
pub record InOrder (rules : List Rule) (answer : Answer) : Type 0 where
  -- "If a sheet, a filling, a pair, side or clause line number or a solver's reply breaks a rule of document 01, or a lent buffer is too short, the call
  -- returns the first refusal number that applies, in the order given there, and changes no lent byte."
  pub first : (n : ℕ) → First n rules ↔ (answer ≡ refused n)
  -- "If none applies, the call finishes and is not refused."
  pub none : Kept rules ↔ ((values : List ℕ) × (answer ≡ finished values))

-- "and changes no lent byte"
abbrev pub Unchanged : Answer → List ℕ → List ℕ → Type 0
Unchanged answer before after = (n : ℕ) → answer ≡ refused n → after ≡ before

pub in_order : {rules : List Rule} {answer : Answer} → Ordered rules answer → InOrder rules answer
in_order {rules} {answer} o = record {
  first = λ n. (
    (λ f. o.is ∙ first_fails refused rules _ f),
    λ q. first_or_none rules (λ h. not_finished (sym q ∙ o.is ∙ kept_goes refused rules _ h)) (same_number n q),
  );
  none = (
    (λ h. (o.values, o.is ∙ kept_goes refused rules _ h)),
    λ q. first_or_none rules (λ h. h) (λ n f. not_finished (sym (first_fails refused rules _ f) ∙ sym o.is ∙ q.1)),
  );
}
  where
    same_number : (n : ℕ) → answer ≡ refused n → (k : ℕ) → First k rules → First n rules
    same_number n q k f =
        let same = sym (first_fails refused rules (finished o.values) f) ∙ sym o.is ∙ q in
        let z : k ≡ n = cc in
        subst (λ i. First i rules) z f

pub written_unchanged : (a : Answer) {before after : List ℕ} {answer : Answer} → Writes a before answer after → Unchanged answer before after
written_unchanged (refused k) w n q = w.1
written_unchanged (finished vs) w n q = not_finished (sym q ∙ w.0)

-- Reading, counting and checking write to nothing that is lent; what the calls for C do with lent arrays is in `Refused.antt` of their crates.
module _ (b : List ℕ) where
  pub reading_gives_the_first_refusal : InOrder (sheet_rules b) (reading b)
  reading_gives_the_first_refusal = in_order (reading_ordered b)

  pub counting_gives_the_first_refusal : InOrder (sheet_rules b) (counting b)
  counting_gives_the_first_refusal = in_order (counting_ordered b)

  pub checking_gives_the_first_refusal : (m : List ℕ) → InOrder (after_sheet b (λ s. filling_rules s m)) (checking b m)
  checking_gives_the_first_refusal m = in_order (checking_ordered b m)

  module _ (before after : List ℕ) (answer : Answer) where
    pub spelling_gives_the_first_refusal : (p side : ℕ) (m : List ℕ) → Writes (spelling b p side m (length before)) before answer after
        → InOrder (after_sheet b (spelling_rules p side m (length before))) answer × Unchanged answer before after
    spelling_gives_the_first_refusal p side m call =
        (rw call.0 (in_order (sized_ordered (spelling_ordered b p side m (length before)))), written_unchanged (spelling b p side m (length before)) call)

    pub writing_gives_the_first_refusal : (n : ℕ) → Writes (writing b n (length before)) before answer after
        → InOrder (after_sheet b (writing_rules n (length before))) answer × Unchanged answer before after
    writing_gives_the_first_refusal n call = (rw call.0 (in_order (sized_ordered (writing_ordered b n (length before)))), written_unchanged (writing b n (length before)) call)

    pub replying_gives_the_first_refusal : (t : List ℕ) → HandsOver (replying b t (length before)) before answer after
        → InOrder (after_sheet b (replying_rules t (length before))) answer × Unchanged answer before after
    replying_gives_the_first_refusal t call = (
      rw call.0 (in_order (unnumbered_ordered (replying_ordered b t (length before)))),
      λ n e. replies.refused_unchanged b t before after answer call e,
    )

    pub searching_gives_the_first_refusal : Decides (searching b (length before)) before answer after
        → InOrder (after_sheet b (λ s. room_rule (length before) s ∷ [])) answer × Unchanged answer before after
    searching_gives_the_first_refusal call = (rw call.0 (in_order (decision_ordered (searching_ordered b (length before)))), searches.refused_unchanged (searching b (length before)) call)

  -- "A sheet is accepted when it breaks none of the rules under Reading."
  pub accepted-breaks-none : Accepted b ↔ Kept (sheet_rules b)
  accepted-breaks-none = (
    (λ ok. reading_gives_the_first_refusal.none.1 (_, reading_counts b ok)),
    λ h. reading-accepted b (reading_gives_the_first_refusal.none.0 h).1,
  )

  -- and its fillings' bytes that break none are those of legal substitutions
  pub filling-breaks-none : Bytes b → Accepted b → (m : List ℕ) → Kept (filling_rules (sheet_of b) m) ↔ ((g : Substitution) × FillingOf b m g)
  filling-breaks-none y ok m = (
    (λ h.
        let all-kept = append_in _ (sheet_rules b) (filling_rules (sheet_of b) m) (accepted-breaks-none.0 ok) h in
        let a = answered b m y ((checking_gives_the_first_refusal m).none.0 all-kept).1 in
        (a.substitution, a.is_filling)),
    λ f. (append_out _ (sheet_rules b) (filling_rules (sheet_of b) m) ((checking_gives_the_first_refusal m).none.1 (_, checking_judges b m y f.0 f.1))).1,
  )

-- Demand 2.
module _ (b : List ℕ) (y : Bytes b) where
  -- "A filling is passed exactly when it solves the sheet as a bounded word equation with linear length constraints."
  pub passed_exactly_when_it_solves : (m : List ℕ) (g : Substitution) → FillingOf b m g → (checking b m ≡ verdict true) ↔ Solves (sheet_of b) g
  passed_exactly_when_it_solves m g f = (passed_solves b m y g f, solves_passed b m y g f)

  -- and of any bytes: those that are passed are a solution's
  pub passed_is-a-solution : (m : List ℕ) → (checking b m ≡ verdict true) ↔ ((g : Substitution) × FillingOf b m g × Solves (sheet_of b) g)
  passed_is-a-solution m = (
    (λ e. let a = answered b m y e in (a.substitution, a.is_filling, passed_solves b m y a.substitution a.is_filling e)),
    λ h. solves_passed b m y h.0 h.1 h.2,
  )

  -- "Spelled texts and clause lines are byte for byte those document 01 defines, and the printed counts are the true ones." A text that is
  -- spelled: the letter bytes of the word of a side.
  module _ (before after : List ℕ) (answer : Answer) where
    pub spelled-byte_for_byte : (p side : ℕ) (m : List ℕ) → Writes (spelling b p side m (length before)) before answer after
        → (g : Substitution) → FillingOf b m g → p < length (sheet_of b).equations → side ≤ 1
        → let text = letter_bytes (sheet_of b) (spell g (template (sheet_of b) p side)) in
        length text ≤ length before → (answer ≡ finished (length text ∷ [])) × (after ≡ text ++ drop (length text) before)
    spelled-byte_for_byte p side m call g f i j k = subst (λ a. Writes a before answer after) (spelled-text b m y g f p side (length before) i j k) call

    -- a clause line, or line 0
    pub lines-byte_for_byte : (n : ℕ) → Writes (writing b n (length before)) before answer after → Accepted b → n ≤ length (ids (sheet_of b))
        → let text = line (sheet_of b) n in
        length text ≤ length before → (answer ≡ finished (length text ∷ [])) × (after ≡ text ++ drop (length text) before)
    lines-byte_for_byte n call ok i k = subst (λ a. Writes a before answer after) (writing-line b n (length before) ok i k) call

  -- "the printed counts": those that are answered, and printed in line 0, are how many variables and clauses there are; and the variables have
  -- the numbers from 1 to their count. The third is the file's size (FileSize.antt).
  pub counts_are_true : Accepted b
      → let s = sheet_of b in
      let v = length (variables s) in
      (counting b ≡ finished (v ∷ length (ids s) ∷ file_size s ∷ [])) × (line s 0 ≡ problem_line v (length (ids s))) × (map (number s) (variables s) ≡ from 1 v)
  unfolding line
  counts_are_true ok = (counting_counts b ok, refl, numbering (sheet_of b) ∙ ap (from 1) (sym (variable_count_lem (sheet_of b))))

-- line n + 1 is clause n + 1: its bytes list the clause's numbers, and then 0; and a number that is printed is said by its figures
pub clause-lines_list_the_clauses : (s : Sheet) (n : ℕ) → numbers (line s (suc n)) ≡ clause s (id_at s n) ++ (pos 0 ∷ [])
clause-lines_list_the_clauses s n = numbers-line s n

pub figures_say_the_number : (n : ℕ) → value_of (decimal n) ≡ n
figures_say_the_number n = decimal-value n

-- Demand 3. "In demand 3 a buffer is long enough from 9 × V bytes on."
abbrev filling_bytes : List ℕ → ℕ
filling_bytes b = 9 * length (sheet_of b).limits

-- a filling that clashes stands in the first 9 × V bytes, and later ones are unchanged
abbrev pub HandsOverAClash : List ℕ → List ℕ → List ℕ → Type 0
HandsOverAClash b before after = (g : Substitution) × Solves (sheet_of b) g × (after ≡ encode_filling g ++ drop (filling_bytes b) before)

module _ (b : List ℕ) (y : Bytes b) where
  handed_over : (before after : List ℕ) → checking b (take (filling_bytes b) after) ≡ verdict true → drop (filling_bytes b) after ≡ drop (filling_bytes b) before → HandsOverAClash b before after
  handed_over before after clash later =
      let found = (passed_is-a-solution b y (take (filling_bytes b) after)).0 clash in
      (found.0, found.2, sym (take-append-drop (filling_bytes b) after) ∙ ap₂ ◌++◌ found.1.bytes later)

  -- "All of this is for every accepted sheet." What is asked of the sheet above and below is `Accepted`, of bytes, and no more; and the accepted
  -- sheets are the bytes of all sheets within document 01's ranges.
  pub accepted_sheets_are-all_in_range : Accepted b ↔ ((s : Sheet) × InRange s × (b ≡ encode s))
  unfolding Accepted
  accepted_sheets_are-all_in_range = (
    (λ ok. (sheet_of b, accepted_in_range b y ok, accepted_bytes b y ok)),
    λ h. ap (λ c. is_accepted (read c)) h.2 ∙ ap is_accepted (read-encode h.0 h.1),
  )

  -- "With a long enough buffer the search answers clash exactly when there is a filling that clashes, and the filling it then hands over is one
  -- that does; otherwise it answers apart."
  module _ (before after : List ℕ) (answer : Answer) (call : Decides (searching b (length before)) before answer after) (ok : Accepted b) (enough : filling_bytes b ≤ length before) where
    decides : answer ≡ verdict (solvable (sheet_of b))
    decides = call.0 ∙ searches.searching-verdict b (length before) ok enough

    -- the call, its answer being told
    answered_as : {a : Answer} → answer ≡ a → Decides (searching b (length before)) before a after
    answered_as e = (sym e ∙ call.0, call.1)

    pub search_answers_clash_exactly : (answer ≡ verdict true) ↔ ((g : Substitution) × Solves (sheet_of b) g)
    search_answers_clash_exactly =
        ((λ e. solvable_out (sheet_of b) (verdict-same (solvable (sheet_of b)) true (sym decides ∙ e))), λ h. decides ∙ ap verdict (solvable_in (sheet_of b) h.0 h.1))

    pub search_hands_over_a-clash : answer ≡ verdict true → HandsOverAClash b before after
    search_hands_over_a-clash e =
        (first_solution (sheet_of b), (searches.clash-first b before after (answered_as e)).is_solution, searches.clash_handed b before after (answered_as e) y)

    pub search_else_answers_apart : (((g : Substitution) × Solves (sheet_of b) g) → ⊥) → (answer ≡ verdict false) × (after ≡ before)
    search_else_answers_apart none =
        let e = decides ∙ ap verdict (none_unsolvable (sheet_of b) (λ g h. none (g, h))) in
        (e, searches.apart_unchanged b before after (answered_as e))

  module _ (ok : Accepted b) where
    -- "The clauses can be satisfied exactly when there is a filling that clashes."
    pub clauses_satisfied_exactly : ((w : Assignment) × Satisfies (sheet_of b) w) ↔ ((g : Substitution) × Solves (sheet_of b) g)
    clauses_satisfied_exactly = clauses.satisfiable b ok

    -- "Take any assignment that satisfies them, and any text of at most 65,536 bytes that lists it in the reply form of document 01." Every
    -- assignment has one.
    pub every_assignment_has_a-text : (w : Assignment) → (t : List ℕ) × Bytes t × (length t ≤ 65536) × Lists (sheet_of b) t w
    every_assignment_has_a-text w = has_listing b y ok w

  module _ (t before after : List ℕ) (answer : Answer) (call : HandsOver (replying b t (length before)) before answer after) where
    -- "With a long enough buffer that text is accepted, and the filling handed over is exactly the one the assignment spells, and it clashes."
    pub listed-text-is-accepted : Accepted b → filling_bytes b ≤ length before → (w : Assignment) → Satisfies (sheet_of b) w → Lists (sheet_of b) t w → length t ≤ 65536
        → (answer ≡ finished []) × (after ≡ encode_filling (spelled (sheet_of b) w) ++ drop (filling_bytes b) before) × Solves (sheet_of b) (spelled (sheet_of b) w)
    listed-text-is-accepted = replies.listed-accepted b t before after answer call y

    -- "And whatever a solver writes, a reply that is accepted hands over a filling that clashes."
    pub accepted_reply_hands_over_a-clash : answer ≡ finished [] → HandsOverAClash b before after
    accepted_reply_hands_over_a-clash e = let c = replies.accepted_clashes b t before after answer call y e in handed_over before after c.0 c.1
