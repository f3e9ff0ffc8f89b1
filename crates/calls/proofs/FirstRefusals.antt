-- Each call asks its rules in document 01's order. The walk through a sheet's bytes, and that through a filling's, asks in turn what the lists of
-- specs/Rules say by offset; so a call's answer is the refusal of the first rule that is broken, or its values. Assumes nothing.
use mathlib.Core.Path.{◌≡◌, refl, sym, ap, ◌∙◌}
use mathlib.Core.List.{List, [], ◌∷◌, ◌++◌, append-nil}
use Prim.Native.Nat.{ℕ, zero, suc, ◌+◌, ◌*◌, ◌≤◌}
use native.Mathlib.Omega.{arith}
use lib.Dec.{leb, ltb, eqb}
use lib.ListN.{length, get_or, take, drop, drop_of_length-le}
use lib.Seq.{drop-cons, get_or-take, get_or-drop}
use borrow.Author.Tests.{ltb-true, ltb-false, leb-true, leb-false, eqb-true}
use Rattle.model.specs.Sheet as sheet
use Rattle.model.specs.Sheet.{Sheet, Step, got, fault, ◌then◌, must, Role, letter_byte, limit_byte, count_byte, template_byte, coefficient_byte, most_byte, passes, refusal_of, width, row, times, sides, an_equation, a_constraint, walk, opening, byte, Counts, counts_at, ended, read, counts_of, sheet_of}
use Rattle.model.specs.Word.{Substitution}
use Rattle.model.specs.Mismatch.{judged}
use Rattle.model.specs.Filling.{places, a_text, texts, filling, encode_filling, substitution_in}
use Rattle.formula.specs.Dimacs.{line, file}
use Rattle.formula.specs.Assignment.{spelled}
use Rattle.calls.specs.Reply.{assigned}
use Rattle.calls.specs.Calls.{Answer, refused, finished, of_sheet, of_filling, require, four_counts, reading, judgement_values, checking, spelled_text, spelling_of, spelling, search_values, searching_of, searching, decision, clause_counts, counting, writing_of, writing, filing_of, filing, formed, decoding, replying_of, replying, sized, unnumbered}
use Rattle.calls.specs.Rules.{Rule, ◌asks◌, row_rules, several_rules, past, symbols_at, sides_rules, equation_rules, equation_bytes, constraint_rules, constraints_at, end_at, walk_rules, opening_rules, sheet_rules, place_rules, text_rules, filling_rules, after_sheet, spelling_rules, room_rule, writing_rules, filing_rule, replying_rules}
use Rattle.model.proofs.Lists.{by_test}
use Rattle.formula.proofs.Lines.{file_size_lem}
use Rattle.calls.proofs.Ordered.{in_order_lem, order_through, order_append, kept_goes, first_fails, Ordered, ordered_after, Follows, order_then, follows_from, follows_then, follows_wrapped, follows_got, follows_must}

-- A sheet.
ended_order : (rules : List Rule) (w : Step Sheet) → ended (in_order_lem fault rules w) ≡ in_order_lem sheet.refused rules (ended w)
ended_order = order_through ended fault sheet.refused (λ n. refl)

module _ (b : List ℕ) where
  pub row_follows : (role : Role) (before k n : ℕ) → row role before n (drop k b) ≡ in_order_lem fault (row_rules b role before k n) (got (take n (drop k b)) (drop (k + n) b))
  unfolding row row_rules in_order_lem
  row_follows role before k zero = let e : k ≡ k + 0 = omega arith in ap (λ j. got [] (drop j b)) e
  row_follows role before k (suc n) = by_test (ltb k (length b))
      (λ t.
      let here = drop-cons b k 0 (ltb-true k (length b) t) in
      let e : suc k + n ≡ k + suc n = omega arith in
      rw (here, t)
      (ap (must (passes role before (byte b k)) (refusal_of role))
      (ap (λ w. w then (λ ys zs. got (byte b k ∷ ys) zs)) (row_follows role (byte b k) (suc k) n)
      ∙ order_then (row_rules b role (byte b k) (suc k) n) _ _
      ∙ ap (λ j. in_order_lem fault (row_rules b role (byte b k) (suc k) n) (got (byte b k ∷ take n (drop (suc k) b)) (drop j b))) e)))
      (λ t. rw (drop_of_length-le b (ltb-false k (length b) t), t))

  -- a row, and what goes on with its bytes
  pub row_then : {A : Type 0} (role : Role) (k n : ℕ) (go : List ℕ → List ℕ → Step A) {rules : List Rule} {left : List ℕ}
      → Follows (go (take n (drop k b)) (drop (k + n) b)) rules left → Follows (row role 0 n (drop k b) then go) (row_rules b role 0 k n ++ rules) left
  row_then role k n go h = follows_from (row role 0 n (drop k b)) (row_rules b role 0 k n) (take n (drop k b)) (drop (k + n) b) go (row_follows role 0 k n) h

  sides_follow : (l : ℕ) (limits : List ℕ) (m n k : ℕ) → Follows (sides l limits m n (drop k b)) (sides_rules b l limits m n k) (drop (k + m + n) b)
  unfolding sides sides_rules
  sides_follow l limits m n k =
      row_then (template_byte l (length limits)) k m _
      (row_then (template_byte l (length limits)) (k + m) n _
      (follows_must (leb (width limits (symbols_at b k m)) 24) 14
      (follows_must (leb (width limits (symbols_at b (k + m) n)) 24) 14
      (follows_got (record { left = symbols_at b k m; right = symbols_at b (k + m) n }) (drop (k + m + n) b)))))

  -- the two counts of an equation
  first_count : (k : ℕ) → get_or (take 2 (drop k b)) 0 0 ≡ byte b k
  first_count k = let e : k + 0 ≡ k = omega arith in get_or-take 2 (drop k b) 0 0 (omega arith) ∙ get_or-drop k b 0 0 ∙ ap (byte b) e

  second-count : (k : ℕ) → get_or (take 2 (drop k b)) 1 0 ≡ byte b (suc k)
  second-count k = let e : k + 1 ≡ suc k = omega arith in get_or-take 2 (drop k b) 1 0 (omega arith) ∙ get_or-drop k b 1 0 ∙ ap (byte b) e

  equation_follows : (l : ℕ) (limits : List ℕ) (k : ℕ) → Follows (an_equation l limits (drop k b)) (equation_rules b l limits k) (drop (k + equation_bytes b k) b)
  unfolding an_equation
  equation_follows l limits k =
      let e : k + 2 + byte b k + byte b (suc k) ≡ k + equation_bytes b k = omega arith in
      row_then count_byte k 2 _ (rw (first_count k, second-count k) (rw e at (sides_follow l limits (byte b k) (byte b (suc k)) (k + 2))))

  constraint_follows : (v k : ℕ) → Follows (a_constraint v (drop k b)) (constraint_rules b v k) (drop (k + (v + 2)) b)
  unfolding a_constraint
  constraint_follows v k =
      let e : k + v + 2 ≡ k + (v + 2) = omega arith in
      row_then coefficient_byte k v _ (follows_wrapped _ (record { value = take 2 (drop (k + v) b); is = rw e at (row_follows most_byte 0 (k + v) 2) }))

  -- several of a kind
  pub several_follow : {A : Type 0} (one : List ℕ → Step A) (rules : ℕ → List Rule) (taken : ℕ → ℕ) → ((k : ℕ) → Follows (one (drop k b)) (rules k) (drop (k + taken k) b))
      → (n k : ℕ) → Follows (times n one (drop k b)) (several_rules n rules taken k) (drop (past n taken k) b)
  unfolding times several_rules past
  several_follow one rules taken h zero k = follows_got [] (drop k b)
  several_follow one rules taken h (suc n) k = follows_then _ (h k) (λ a. follows_wrapped (λ more. a ∷ more) (several_follow one rules taken h n (k + taken k)))

  walk_follows : (c : Counts) → Follows (walk c (drop 9 b)) (walk_rules b c) (drop (end_at b c) b)
  unfolding walk walk_rules
  walk_follows c =
      let l = c.letter_count in
      let v = c.field_count in
      let limits : List ℕ = take v (drop (9 + l) b) in
      row_then letter_byte 9 l _
      (row_then limit_byte (9 + l) v _
      (follows_then _ (several_follow (an_equation l limits) (equation_rules b l limits) (equation_bytes b) (equation_follows l limits) c.equation_count (9 + l + v))
      (λ es. follows_wrapped _ (several_follow (a_constraint v) (constraint_rules b v) (λ k. v + 2) (constraint_follows v) c.constraint_count (constraints_at b c)))))

  opening_follows : opening b ≡ in_order_lem fault (opening_rules b) (got (counts_at b) (drop 9 b))
  unfolding opening in_order_lem
  opening_follows = refl

  ended_follows : (s : Sheet) (k : ℕ) → ended (got s (drop k b)) ≡ in_order_lem sheet.refused ((9 asks leb (length b) k) ∷ []) (sheet.accepted s)
  unfolding in_order_lem
  ended_follows s k = by_test (leb (length b) k)
      (λ t. rw (t, drop_of_length-le b (leb-true (length b) k t)))
      (λ t. rw (t, drop-cons b k 0 (leb-false (length b) k t)))

  -- the sheet that is read, where none is broken
  read_follows : (s : Sheet) × (read b ≡ in_order_lem sheet.refused (sheet_rules b) (sheet.accepted s))
  unfolding read sheet_rules
  read_follows =
      let c = counts_at b in
      let last = (9 asks leb (length b) (end_at b c)) ∷ [] in
      let walked = walk_follows c in (
        walked.value,
        ap (λ w. ended (w then walk)) opening_follows
            ∙ ap ended (order_then (opening_rules b) (got c (drop 9 b)) walk)
            ∙ ended_order (opening_rules b) (walk c (drop 9 b))
            ∙ ap (in_order_lem sheet.refused (opening_rules b))
            (ap ended walked.is
            ∙ ended_order (walk_rules b c) (got walked.value (drop (end_at b c) b))
            ∙ ap (in_order_lem sheet.refused (walk_rules b c)) (ended_follows walked.value (end_at b c))
            ∙ sym (order_append sheet.refused (walk_rules b c) last (sheet.accepted walked.value)))
            ∙ sym (order_append sheet.refused (opening_rules b) (walk_rules b c ++ last) (sheet.accepted walked.value)),
      )

-- A filling.
module _ (m : List ℕ) (l : ℕ) where
  places_follow : (n k c : ℕ) → k + c ≤ length m → Follows (places l n c (drop k m)) (place_rules m l n k c) (drop (k + c) m)
  unfolding places place_rules
  places_follow n k zero h = let e : k + 0 ≡ k = omega arith in rw e (follows_got [] (drop k m))
  places_follow zero k (suc c) h =
      let e : suc k + c ≡ k + suc c = omega arith in
      rw (drop-cons m k 0 (omega arith), ← e) (follows_must (eqb (byte m k) 255) 23 (places_follow zero (suc k) c (omega arith)))
  places_follow (suc n) k (suc c) h =
      let e : suc k + c ≡ k + suc c = omega arith in
      rw (drop-cons m k 0 (omega arith), ← e)
      (follows_must (ltb (byte m k) l) 22 (follows_wrapped (λ t. byte m k ∷ t) (places_follow n (suc k) c (omega arith))))

  texts_follow : (limits : List ℕ) (k : ℕ) → k + 9 * length limits ≤ length m → Follows (texts l limits (drop k m)) (text_rules m l limits k) (drop (k + 9 * length limits) m)
  unfolding texts a_text text_rules
  texts_follow [] k h = let e : k + 0 ≡ k = omega arith in rw e (follows_got [] (drop k m))
  texts_follow (limit ∷ limits) k h =
      let e : suc k + 8 ≡ k + 9 = omega arith in
      let q : k + 9 + 9 * length limits ≡ k + 9 * length (limit ∷ limits) = omega arith in
      rw (drop-cons m k 0 (omega arith), ← q)
      (follows_then _
      (follows_must (leb (byte m k) limit) 21 (rw e at (places_follow (byte m k) (suc k) 8 (omega arith))))
      (λ t. follows_wrapped (λ ts. t ∷ ts) (texts_follow limits (k + 9) (omega arith))))

filling_follows : (s : Sheet) (m : List ℕ) → Follows (filling s m) (filling_rules s m) (drop (9 * length s.limits) m)
unfolding filling filling_rules in_order_lem
filling_follows s m = by_test (eqb (length m) (9 * length s.limits))
    (λ t.
    let e = eqb-true (length m) (9 * length s.limits) t in
    let z : 0 + 9 * length s.limits ≡ 9 * length s.limits = omega arith in
    follows_must (eqb (length m) (9 * length s.limits)) 20 (rw z at (texts_follow m (length s.letters) s.limits 0 (omega arith))))
    (λ t. record { value = []; is = rw t })

-- A call that goes on where all rules of the sheet are kept, and one that does where all of the filling are.
module _ (b : List ℕ) (go : Sheet → Answer) (own : Sheet → List Rule) (ordered : (s : Sheet) → Ordered (own s) (go s)) where
  after_sheet_lem : Ordered (after_sheet b own) (of_sheet (read b) go)
  unfolding sheet_of
  after_sheet_lem =
      let s = (read_follows b).0 in
      let is = (read_follows b).1 in
      ordered_after (sheet_rules b) (own (sheet_of b)) (of_sheet (read b) go)
      (λ h. let r : read b ≡ sheet.accepted s = is ∙ kept_goes sheet.refused (sheet_rules b) (sheet.accepted s) h in rw r (ordered s))
      (λ n f. ap (λ x. of_sheet x go) (is ∙ first_fails sheet.refused (sheet_rules b) (sheet.accepted s) f))

module _ (s : Sheet) (m : List ℕ) (go : Substitution → Answer) (own : Substitution → List Rule) (ordered : (g : Substitution) → Ordered (own g) (go g)) where
  after_filling : Ordered (filling_rules s m ++ own (substitution_in (filling s m))) (of_filling (filling s m) go)
  after_filling =
      let f = filling_follows s m in
      let end = drop (9 * length s.limits) m in
      ordered_after (filling_rules s m) (own (substitution_in (filling s m))) (of_filling (filling s m) go)
      (λ h. let r : filling s m ≡ got f.value end = f.is ∙ kept_goes fault (filling_rules s m) (got f.value end) h in rw r (ordered f.value))
      (λ n k. ap (λ x. of_filling x go) (f.is ∙ first_fails fault (filling_rules s m) (got f.value end) k))

-- a call that has no rules of its own
sheet_alone : (b : List ℕ) (values : Sheet → List ℕ) → Ordered (sheet_rules b) (of_sheet (read b) (λ s. finished (values s)))
unfolding in_order_lem
sheet_alone b values = rw append-nil at (after_sheet_lem b (λ s. finished (values s)) (λ s. []) (λ s. record { values = values s; is = refl }))

-- The calls.
pub reading_ordered : (b : List ℕ) → Ordered (sheet_rules b) (reading b)
unfolding reading
reading_ordered b = sheet_alone b (λ s. four_counts (counts_of s))

pub checking_ordered : (b m : List ℕ) → Ordered (after_sheet b (λ s. filling_rules s m)) (checking b m)
unfolding checking in_order_lem
checking_ordered b m = after_sheet_lem b _ (λ s. filling_rules s m) (λ s.
    rw append-nil at (after_filling s m (λ g. finished (judgement_values (judged s g))) (λ g. []) (λ g. record { values = judgement_values (judged s g); is = refl })))

pub spelling_ordered : (b : List ℕ) (p side : ℕ) (m : List ℕ) (room : ℕ) → Ordered (after_sheet b (spelling_rules p side m room)) (spelling b p side m room)
unfolding spelling spelling_of spelling_rules in_order_lem
spelling_ordered b p side m room = after_sheet_lem b _ (spelling_rules p side m room) (λ s.
    let o = after_filling s m _ (λ g. (26 asks leb (length (spelled_text s p side g)) room) ∷ []) (λ g. record { values = spelled_text s p side g; is = refl }) in
    record { values = o.values; is = ap (λ z. require (ltb p (length s.equations)) 24 (require (leb side 1) 25 z)) o.is })

pub searching_ordered : (b : List ℕ) (room : ℕ) → Ordered (after_sheet b (λ s. room_rule room s ∷ [])) (searching b room)
unfolding searching searching_of in_order_lem
searching_ordered b room = after_sheet_lem b _ (λ s. room_rule room s ∷ []) (λ s. record { values = search_values s; is = refl })

pub counting_ordered : (b : List ℕ) → Ordered (sheet_rules b) (counting b)
unfolding counting
counting_ordered b = sheet_alone b clause_counts

pub writing_ordered : (b : List ℕ) (n room : ℕ) → Ordered (after_sheet b (writing_rules n room)) (writing b n room)
unfolding writing writing_of writing_rules in_order_lem
writing_ordered b n room = after_sheet_lem b _ (writing_rules n room) (λ s. record { values = line s n; is = refl })

pub filing_ordered : (b : List ℕ) (room : ℕ) → Ordered (after_sheet b (λ s. filing_rule room s ∷ [])) (filing b room)
unfolding filing filing_of in_order_lem
filing_ordered b room = after_sheet_lem b _ (λ s. filing_rule room s ∷ []) (λ s. record { values = file s; is = rw (← file_size_lem s) })

pub replying_ordered : (b t : List ℕ) (room : ℕ) → Ordered (after_sheet b (replying_rules t room)) (replying b t room)
unfolding replying replying_of formed decoding replying_rules in_order_lem
replying_ordered b t room = after_sheet_lem b _ (replying_rules t room) (λ s. record { values = encode_filling (spelled s (assigned t)); is = refl })

-- a call that answers the length of its values, or no number, or the first of them, is ordered as its values are
pub sized_ordered : {rules : List Rule} {a : Answer} → Ordered rules a → Ordered rules (sized a)
sized_ordered {rules} h = record { values = length h.values ∷ []; is = ap sized h.is ∙ order_through sized refused refused (λ n. refl) rules (finished h.values) }

pub unnumbered_ordered : {rules : List Rule} {a : Answer} → Ordered rules a → Ordered rules (unnumbered a)
unnumbered_ordered {rules} h = record { values = []; is = ap unnumbered h.is ∙ order_through unnumbered refused refused (λ n. refl) rules (finished h.values) }

pub decision_ordered : {rules : List Rule} {a : Answer} → Ordered rules a → Ordered rules (decision a)
decision_ordered {rules} h = record { values = take 1 h.values; is = ap decision h.is ∙ order_through decision refused refused (λ n. refl) rules (finished h.values) }
