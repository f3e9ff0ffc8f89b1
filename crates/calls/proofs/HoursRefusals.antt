-- The call on a book with hours asks its rules in document 02's order. Reading an hours file asks in turn what the lists of specs/Rules say by offset; so the answer
-- is the refusal of the first rule that is broken, or its values. Assumes nothing.
use mathlib.Core.Path.{◌≡◌, refl, sym, ap, ◌∙◌}
use mathlib.Core.Bool.{true, false, ◌&&◌}
use mathlib.Core.List.{List, [], ◌∷◌, ◌++◌}
use Prim.Native.Nat.{ℕ, zero, suc, ◌+◌, ◌<◌, ◌≤◌}
use native.Mathlib.Omega.{arith}
use lib.Dec.{leb, ltb, eqb}
use lib.ListN.{length}
use borrow.Author.Tests.{le-ltb, eq-eqb, ne_eqb, leb-true, leb-false}
use Rattle.model.specs.Lists.{pick}
use Rattle.model.specs.Sheet.{byte}
use Rattle.book.specs.Book as book
use Rattle.book.specs.Book.{Book, opens, read_book, book_of}
use Rattle.schedule.specs.Schedule as schedule
use Rattle.schedule.specs.Schedule.{Schedule, tested, all_tested, mark, read_hours, schedule_of}
use Rattle.schedule.specs.Shared.{sharing}
use Rattle.schedule.specs.Offsets.{minute_at, standing, next_at, laid, fits}
use Rattle.calls.specs.Calls.{refused, of_book, of_hours, list_values, listing, comparing_hours}
use Rattle.calls.specs.Rules.{Rule, ◌asks◌, several_rules, past, mark_rules, book_rules, list_rule, own_rules, interval_rules, own_bytes, hours_rules, comparing_hours_rules}
use Rattle.model.proofs.Lists.{by_test}
use Rattle.book.proofs.Opening.{opens-long}
use Rattle.schedule.proofs.Offsets.{read_shut, read_strays, read_fits}
use Rattle.calls.proofs.Ordered.{in_order_lem, order_append, kept_goes, first_fails, Ordered, ordered_after}
use Rattle.calls.proofs.BookRefusals.{mark_follows, book_follows}

module _ (h : List ℕ) where
  -- The counts, and that the bytes are just theirs.
  beyond : (k n : ℕ) → length h < k → fits h k n ≡ false
  unfolding fits
  beyond k zero l = ne_eqb k (length h) (λ e. omega arith)
  beyond k (suc n) l = rw (le-ltb k (length h) (omega arith))

  ended_here : (k : ℕ) → k ≤ length h → leb (length h) k ≡ eqb k (length h)
  ended_here k l = by_test (leb (length h) k)
      (λ t. let m = leb-true (length h) k t in t ∙ sym (eq-eqb k (length h) (omega arith)))
      (λ t. let m = leb-false (length h) k t in t ∙ sym (ne_eqb k (length h) (λ e. omega arith)))

  pub fits_follow : (k n : ℕ) (go : schedule.Reading) → k ≤ length h
      → in_order_lem schedule.refused (several_rules n (own_rules h) (own_bytes h) k) (in_order_lem schedule.refused ((43 asks leb (length h) (past n (own_bytes h) k)) ∷ []) go) ≡ pick (fits h k n) go (schedule.refused 43)
  unfolding several_rules past in_order_lem fits
  fits_follow k zero go l = ap (λ t. pick t go (schedule.refused 43)) (ended_here k l)
  fits_follow k (suc n) go l =
      let e : k + own_bytes h k ≡ next_at h k = omega arith in
      let last : schedule.Reading = in_order_lem schedule.refused ((43 asks leb (length h) (past n (own_bytes h) (k + own_bytes h k))) ∷ []) go in
      order_append schedule.refused (own_rules h k) (several_rules n (own_rules h) (own_bytes h) (k + own_bytes h k)) last
      ∙ by_test (ltb k (length h))
      (λ t. by_test (leb (byte h k) 4)
      (λ u. by_test (leb (next_at h k) (length h))
      (λ v. rw (e, t, u, v) (fits_follow (next_at h k) n go (leb-true _ _ v)))
      (λ v. rw (e, t, u, v, beyond (next_at h k) n (leb-false (next_at h k) (length h) v))))
      (λ u. rw (t, u)))
      (λ t. rw t)

  -- The windows.
  intervals_follow : (before k c : ℕ) (go : schedule.Reading) → in_order_lem schedule.refused (interval_rules h before k c) go ≡ tested before (standing h k c) go
  unfolding interval_rules in_order_lem tested standing
  intervals_follow before k zero go = refl
  intervals_follow before k (suc c) go =
      ap (λ z. pick (ltb (minute_at h k) (minute_at h (k + 2)) && leb (minute_at h (k + 2)) 10080) (pick (leb before (minute_at h k)) z (schedule.refused 45)) (schedule.refused 44))
      (intervals_follow (minute_at h (k + 2)) (k + 4) c go)

  pub tested_follow : (k n : ℕ) (go : schedule.Reading) → in_order_lem schedule.refused (several_rules n (λ j. interval_rules h 0 (j + 1) (byte h j)) (own_bytes h) k) go ≡ all_tested (laid h k n) go
  unfolding several_rules in_order_lem all_tested laid
  tested_follow k zero go = refl
  tested_follow k (suc n) go =
      let e : k + own_bytes h k ≡ next_at h k = omega arith in
      order_append schedule.refused (interval_rules h 0 (k + 1) (byte h k)) (several_rules n (λ j. interval_rules h 0 (j + 1) (byte h j)) (own_bytes h) (k + own_bytes h k)) go
      ∙ intervals_follow 0 (k + 1) (byte h k) (in_order_lem schedule.refused (several_rules n (λ j. interval_rules h 0 (j + 1) (byte h j)) (own_bytes h) (k + own_bytes h k)) go)
      ∙ ap (λ z. tested 0 (standing h (k + 1) (byte h k)) z) (rw e (tested_follow (next_at h k) n go))

  -- The whole file: the mark and the version, and then the rest.
  abbrev first : List Rule
  first = mark_rules 43 mark h

  module _ (n : ℕ) where
    abbrev said : schedule.Reading
    said = schedule.accepted (laid h 5 n)

    walked : opens mark h ≡ true → read_hours n h ≡ pick (fits h 5 n) (all_tested (laid h 5 n) said) (schedule.refused 43)
    walked o =
        let l = opens-long mark h o in
        by_test (fits h 5 n)
        (λ f. read_fits h n o l f ∙ ap (λ t. pick t (all_tested (laid h 5 n) said) (schedule.refused 43)) (sym f))
        (λ f. read_strays h n o l f ∙ ap (λ t. pick t (all_tested (laid h 5 n) said) (schedule.refused 43)) (sym f))

    after_opening : (rest : List Rule) → (5 ≤ length h → pick (fits h 5 n) (all_tested (laid h 5 n) said) (schedule.refused 43) ≡ in_order_lem schedule.refused rest said)
        → read_hours n h ≡ in_order_lem schedule.refused (first ++ rest) said
    after_opening rest go =
        by_test (opens mark h)
        (λ o. walked o ∙ go (opens-long mark h o) ∙ ap (λ t. pick t (in_order_lem schedule.refused rest said) (schedule.refused 43)) (sym o))
        (λ o. read_shut h n o ∙ ap (λ t. pick t (in_order_lem schedule.refused rest said) (schedule.refused 43)) (sym o))
        ∙ mark_follows mark h 43 (in_order_lem schedule.refused rest said) schedule.refused
        ∙ sym (order_append schedule.refused first rest said)

    pub hours_follow : read_hours n h ≡ in_order_lem schedule.refused (hours_rules n h) said
    unfolding hours_rules
    hours_follow =
        let counts : List Rule = several_rules n (own_rules h) (own_bytes h) 5 in
        let last : List Rule = (43 asks leb (length h) (past n (own_bytes h) 5)) ∷ [] in
        let windows : List Rule = several_rules n (λ k. interval_rules h 0 (k + 1) (byte h k)) (own_bytes h) 5 in
        after_opening (counts ++ (last ++ windows))
        (λ l. sym
        (order_append schedule.refused counts (last ++ windows) said
        ∙ ap (in_order_lem schedule.refused counts) (order_append schedule.refused last windows said ∙ ap (in_order_lem schedule.refused last) (tested_follow 5 n said))
        ∙ fits_follow 5 n (all_tested (laid h 5 n) said) l))

-- The call.
module _ (b h : List ℕ) (room : ℕ) where
  abbrev list : Book → Schedule → List Rule
  list k s = list_rule (sharing k s) room ∷ []

  -- after the book's rules, those of the hours and of the list
  of_hours_lem : (k : Book) → Ordered (hours_rules (length k.templates) h ++ list k (schedule_of (length k.templates) h)) (of_hours (read_hours (length k.templates) h) (λ s. listing (sharing k s) room))
  unfolding schedule_of listing in_order_lem
  of_hours_lem k =
      let n : ℕ = length k.templates in
      let s : Schedule = laid h 5 n in
      ordered_after (hours_rules n h) (list k (schedule_of n h)) (of_hours (read_hours n h) (λ s. listing (sharing k s) room))
      (λ kept. let r : read_hours n h ≡ schedule.accepted s = hours_follow h n ∙ kept_goes schedule.refused (hours_rules n h) (schedule.accepted s) kept in rw r (record { values = list_values (sharing k s); is = refl }))
      (λ m f. ap (λ x. of_hours x (λ s. listing (sharing k s) room)) (hours_follow h n ∙ first_fails schedule.refused (hours_rules n h) (schedule.accepted s) f))

  pub comparing_hours_ordered : Ordered (comparing_hours_rules b h room) (comparing_hours b h room)
  unfolding comparing_hours comparing_hours_rules book_of
  comparing_hours_ordered =
      let k = (book_follows b).0 in
      let is = (book_follows b).1 in
      ordered_after (book_rules b) _ (comparing_hours b h room)
      (λ kept. let r : read_book b ≡ book.accepted k = is ∙ kept_goes book.refused (book_rules b) (book.accepted k) kept in rw r (of_hours_lem k))
      (λ n f. ap (λ x. of_book x (λ k. of_hours (read_hours (length k.templates) h) (λ s. listing (sharing k s) room))) (is ∙ first_fails book.refused (book_rules b) (book.accepted k) f))
