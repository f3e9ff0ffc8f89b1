-- Document 02, No. 6 (docs/02-change-requests.md), "Shop hours", each sentence above the theorems that state it. What is said of a call is, as the demands are
-- (Demands.antt), of bytes and of what its contract says: the call with the book b and the hours file h answered `answer`, and left `after` in the list's buffer
-- where `before` stood. Assumes nothing.
use mathlib.Core.Path.{◌≡◌, refl, sym, ap, subst, ◌∙◌}
use mathlib.Core.Logic.{◌↔◌}
use mathlib.Core.Bool.{true, ◌&&◌, ◌||◌}
use mathlib.Core.List.{List, [], ◌∷◌}
use Prim.Native.Nat.{ℕ, zero, suc, ◌*◌, ◌/◌, ◌%◌, ◌<◌, ◌≤◌}
use native.Mathlib.Omega.{arith}
use lib.Dec.{leb, ltb}
use lib.ListN.{length, get_or, take}
use borrow.Author.Tests.{le-leb, lt-ltb}
use Rattle.model.specs.Lists.{each, any, All, Bytes}
use Rattle.book.specs.Book as book
use Rattle.book.specs.Book.{Book, opens, read_book, BookIn, book_of}
use Rattle.book.specs.Pairs.{clash, Clash, Pair, clashing, list_bytes}
use Rattle.schedule.specs.Schedule as schedule
use Rattle.schedule.specs.Schedule.{Interval, Schedule, intervals, all_tested, mark, read_hours, encode_hours, Four, OwnIn, ScheduleIn, Ordered, schedule_of}
use Rattle.schedule.specs.Shared.{sent, share, Sent, Share, sharing}
use Rattle.schedule.specs.Offsets.{laid, fits}
use Rattle.calls.specs.Calls.{Answer, refused, finished, Decides, comparing_hours}
use Rattle.calls.specs.Rules.{Kept, hours_rules, comparing_hours_rules}
use Rattle.model.proofs.Lists.{by_test, and_split, and_join, and_true, or_false, weaken, at}
use Rattle.model.proofs.Keeping.{keep_in}
use Rattle.book.proofs.Reading as books
use Rattle.book.proofs.Opening.{opens-long}
use Rattle.book.proofs.Meaning.{clash_means}
use Rattle.book.proofs.Listed.{kept-few, kept-agree, clashing-kept, list_size}
use Rattle.schedule.proofs.Computed.{◌to◌}
use Rattle.schedule.proofs.Reading as hours
use Rattle.schedule.proofs.Faults as faults
use Rattle.schedule.proofs.Faults.{FirstFault}
use Rattle.schedule.proofs.Overlapping as minutes
use Rattle.schedule.proofs.Offsets.{walk-fits, read_shut, read_strays}
use Rattle.calls.proofs.Searching as searches
use Rattle.calls.proofs.Comparing.{all-tested-numbers, comparing_hours_accepted, comparing_hours_prefix, Listed, finished_with_hours, sharing-kept}
use Rattle.calls.proofs.Ordered.{kept_goes, first_fails, first_or_none}
use Rattle.calls.proofs.Demands.{InOrder, Unchanged, in_order}
use Rattle.calls.proofs.FirstRefusals.{decision_ordered}
use Rattle.calls.proofs.HoursRefusals.{hours_follow, comparing_hours_ordered}
use Rattle.calls.proofs.BookOfTemplates.{Lists, lists_kept, short_exactly}

-- "An hours file has the mark TPH, version 1 in 16 bits, and for each template of a book, in book order, a count byte of 0 to 4 and then that many windows. A window is
-- two 16-bit minutes": these bytes, and those of a schedule within the ranges are read as that schedule, and no others are accepted. No accepted file has more than
-- 277 bytes, and the first 278 decide.
pub an_hours_file-is : (s : Schedule) → encode_hours s
    ≡ 84 ∷ 80 ∷ 72 ∷ 0 ∷ 1 ∷ each s (λ ws. length ws ∷ each ws (λ w. w.start / 256 ∷ w.start % 256 ∷ w.end / 256 ∷ w.end % 256 ∷ []))
unfolding encode_hours
an_hours_file-is s = refl

pub its_bytes_are-read : (n : ℕ) (s : Schedule) → ScheduleIn n s → read_hours n (encode_hours s) ≡ schedule.accepted s
its_bytes_are-read = hours.read-encode

pub no-others-are-accepted : (n : ℕ) (h : List ℕ) → Bytes h → (s : Schedule) → read_hours n h ≡ schedule.accepted s → (h ≡ encode_hours s) × ScheduleIn n s
no-others-are-accepted n h y s = hours.accepted-encode n h y

pub accepted_files_are-short : (n : ℕ) → n ≤ 16 → (h : List ℕ) (s : Schedule) → read_hours n h ≡ schedule.accepted s → length h ≤ 277
accepted_files_are-short n few h s = hours.hours_short n few h

pub a_prefix_decides : (n : ℕ) → n ≤ 16 → (h : List ℕ) → read_hours n h ≡ read_hours n (take 278 h)
a_prefix_decides = hours.read_prefix

-- "minutes, from Monday 00:00, the start included and the end not": in which minutes a template may be sent
pub sent_in_a-minute_means : (ws : List Interval) (m : ℕ) → (sent ws m ≡ true) ↔ Sent ws m
sent_in_a-minute_means = minutes.sent_means

-- of one window
only_one : (w : Interval) (m : ℕ) → Sent (w ∷ []) m → (w.start ≤ m) × (m < w.end)
only_one w m h = of_one h.number h.there h.from_start h.before_end
  where
    of_one : (k : ℕ) → k < 1 → (get_or (w ∷ []) k (0 to 0)).start ≤ m → m < (get_or (w ∷ []) k (0 to 0)).end → (w.start ≤ m) × (m < w.end)
    of_one zero l a b = (a, b)
    of_one (suc k) l a b = absurd (omega arith)

pub the_start_included_and_the_end_not : (w : Interval) → w.start < w.end → Sent (w ∷ []) w.start × (Sent (w ∷ []) w.end → ⊥)
the_start_included_and_the_end_not w l = (
  record { number = 0; there = omega arith; from_start = omega arith; before_end = l },
  λ s. omega (arith, (only_one w w.end s).1),
)

-- "A week has 10,080 minutes"
module _ (n : ℕ) (s : Schedule) (ok : ScheduleIn n s) where
  pub minutes_are_of_the_week : (i m : ℕ) → i < n → Sent (intervals s i) m → m < 10080
  minutes_are_of_the_week i m l h = let w = minutes.one_in n s ok i h.number l h.there in omega (arith, h.before_end, w.within)

  -- two templates share a minute: the test of the list, and what it says
  pub sharing-a-minute_means : (i j : ℕ) → i < n → j < n → (share s i j ≡ true) ↔ Share s i j
  sharing-a-minute_means i j hi hj = minutes.share_means n s ok i j hi hj

-- "a window across Sunday midnight is written as two": from minute a on, and before minute b of the next week
module _ (a b : ℕ) (some : 0 < b) (apart : b ≤ a) (within : a < 10080) where
  pub two_windows_are_in_range : OwnIn ((0 to b) ∷ (a to 10080) ∷ [])
  unfolding All Ordered
  two_windows_are_in_range = record {
    few = omega arith;
    each_in = (record { some = some; within = omega arith }, (record { some = within; within = omega arith }, tt));
    in_order = (omega arith, (apart, tt));
  }

  pub before_and_after_midnight : (m : ℕ) → m < 10080 → sent ((0 to b) ∷ (a to 10080) ∷ []) m ≡ (ltb m b || leb a m)
  unfolding sent any
  before_and_after_midnight m l =
      rw (le-leb 0 m (omega arith), lt-ltb m 10080 l)
      (ap (λ t. ltb m b || t) (or_false (leb a m && true) ∙ and_true (leb a m)))

-- "and one window ending where another starts shares none": no minute is in both; and templates share none where each window of the one only touches those of the other,
-- or lies apart from them
pub touching_windows_share-none : (v w : Interval) → v.end ≡ w.start → (m : ℕ) → Sent (v ∷ []) m → Sent (w ∷ []) m → ⊥
touching_windows_share-none v w e m a b = omega (arith, (only_one v m a).1, (only_one w m b).0)

-- one of the two ends where the other starts, or before it
pub record Clear (v w : Interval) : Type 0 where
  pub before_or_after : (v.start < w.end → w.start < v.end → ⊥)

pub windows_apart_share-none : (s : Schedule) (i j : ℕ) → All (λ v. All (Clear v) (intervals s j)) (intervals s i) → (Share s i j → ⊥) × (Share s j i → ⊥)
windows_apart_share-none s i j a = ((λ h. none h.minute h.of_first h.of_second), λ h. none h.minute h.of_second h.of_first)
  where
    none : (m : ℕ) → Sent (intervals s i) m → Sent (intervals s j) m → ⊥
    none m p q =
        let c = at (Clear (get_or (intervals s i) p.number (0 to 0))) (intervals s j) q.number (0 to 0) (at (λ v. All (Clear v) (intervals s j)) (intervals s i) p.number (0 to 0) a p.there) q.there in
        c.before_or_after (omega (arith, p.from_start, q.before_end)) (omega (arith, q.from_start, p.before_end))

pub touching_are_clear : (v w : Interval) → v.end ≡ w.start → Clear v w × Clear w v
touching_are_clear v w e = (record { before_or_after = λ a b. omega arith }, record { before_or_after = λ a b. omega arith })

-- a template without windows shares none
pub no_windows_share-none : (s : Schedule) (i j : ℕ) → intervals s i ≡ [] → (Share s i j → ⊥) × (Share s j i → ⊥)
no_windows_share-none s i j e = ((λ h. minutes.none-sent h.minute (rw e at h.of_first)), λ h. minutes.none-sent h.minute (rw e at h.of_second))

-- "The book's list is then exactly the clashing pairs that also share a minute"
abbrev pub ClashesAndShares : Book → Schedule → ℕ → ℕ → Type 0
ClashesAndShares k s i j = Clash k i j × Share s i j

both_mean : (k : Book) → BookIn k → (s : Schedule) → ScheduleIn (length k.templates) s → (i j : ℕ) → i < j → j < length k.templates → ((clash k i j && share s i j) ≡ true) ↔ ClashesAndShares k s i j
both_mean k ok s in_range i j l m =
    let c = clash_means k ok i j (omega arith) in
    let t = minutes.share_means (length k.templates) s in_range i j (omega arith) m in (
      (λ e. let p = and_split (clash k i j) (share s i j) e in (c.0 p.0, t.0 p.1)),
      λ p. and_join (c.1 p.0) (t.1 p.1),
    )

module _ (b h before after : List ℕ) (answer : Answer) (call : Decides (comparing_hours b h (length before)) before answer after) where
  -- "43 comes after 41, then 44 and 45 window by window, then 42.": the first of `comparing_hours_rules` that is broken is given, and a refusal changes no lent byte
  pub comparing_hours_gives_the_first_refusal : InOrder (comparing_hours_rules b h (length before)) answer × Unchanged answer before after
  comparing_hours_gives_the_first_refusal =
      (rw call.0 (in_order (decision_ordered (comparing_hours_ordered b h (length before)))), searches.refused_unchanged (comparing_hours b h (length before)) call)

  pub lists_those_that_share : Bytes b → Bytes h → (number : ℕ) → answer ≡ finished (number ∷ [])
      → Lists (ClashesAndShares (book_of b) (schedule_of (length (book_of b).templates) h)) (length (book_of b).templates) before after number
  lists_those_that_share y z number e =
      let c = finished_with_hours before after (number ∷ []) b h (sym e ∙ call.0, call.1) in
      let k : Book = book_of b in
      let n : ℕ = length k.templates in
      let s : Schedule = schedule_of n h in
      let ok = (books.accepted-encode b y c.0).1 in
      let in_range = (hours.accepted-encode n h z c.1).1 in
      lists_kept (λ i j. clash k i j && share s i j) (ClashesAndShares k s) n (both_mean k ok s in_range) before after number
      (subst (λ ps. Listed ps before after (number ∷ [])) (sharing-kept k s) c.2)

-- Of those that clash none is added, and where all share a minute none is left out.
pub listed_ones_clash : (k : Book) (s : Schedule) (P : Pair → Type 0) → All P (clashing k) → All P (sharing k s)
unfolding sharing
listed_ones_clash k s P a = keep_in P (λ p. share s p.first p.second) (clashing k) (weaken P _ (clashing k) (λ p q t. q) a)

pub the_whole_week_lists_all : (k : Book) (s : Schedule) → ((i : ℕ) → i < length k.templates → intervals s i ≡ (0 to 10080) ∷ []) → sharing k s ≡ clashing k
the_whole_week_lists_all k s all =
    let n : ℕ = length k.templates in
    sharing-kept k s
    ∙ kept-agree (λ i j. clash k i j && share s i j) (clash k) n (λ i j l m. ap (λ t. clash k i j && t) (minutes.whole_weeks_share s i j (all i (omega arith)) (all j m)) ∙ and_true (clash k i j))
    ∙ sym (clashing-kept k)

-- "43 when mark or version is wrong, a count is above 4, or bytes are missing or left over for the book's templates.": exactly when the bytes are those of no schedule
-- of that many templates with at most four windows each, whatever their minutes
pub record LaidOut (n : ℕ) (h : List ℕ) : Type 0 where
  pub said : Schedule
  pub one_each : length said ≡ n
  pub at_most_four : All Four said
  pub bytes : h ≡ encode_hours said

module _ (n : ℕ) (h : List ℕ) (y : Bytes h) where
  pub refused_43_exactly : (read_hours n h ≡ schedule.refused 43) ↔ (LaidOut n h → ⊥)
  refused_43_exactly = (
    (λ e l.
        let tests : all_tested l.said (schedule.accepted l.said) ≡ schedule.refused 43 = sym (hours.read-any n l.said l.one_each l.at_most_four) ∙ ap (read_hours n) (sym l.bytes) ∙ e in
        omega (arith, all-tested-numbers l.said (schedule.accepted l.said) 43 (λ m z. hours.not_accepted (sym z)) tests)),
    λ none. by_test (opens mark h)
        (λ o. by_test (fits h 5 n)
        (λ f. let w = hours.walked_encode n h y o (walk-fits h 5 n f) in absurd (none (record { said = laid h 5 n; one_each = w.1.0; at_most_four = w.1.1; bytes = w.0 })))
        (λ f. read_strays h n o (opens-long mark h o) f))
        (λ o. read_shut h n o),
  )

-- "44 when a start is not below its end or an end is above 10,080. 45 when a window starts before the preceding one of its template ends.", "window by window": where
-- the bytes are those of a schedule, a refusal is that of its first window at fault, all those before it, in the templates before it and in its own, being in order
pub refused_44_or_45_exactly : (n : ℕ) (h : List ℕ) (l : LaidOut n h) (number : ℕ) → (read_hours n h ≡ schedule.refused number) ↔ FirstFault l.said number
refused_44_or_45_exactly n h l number =
    let read : read_hours n h ≡ all_tested l.said (schedule.accepted l.said) = ap (read_hours n) l.bytes ∙ hours.read-any n l.said l.one_each l.at_most_four in (
      (λ e. faults.read-fault l.said (schedule.accepted l.said) number (λ m z. hours.not_accepted (sym z)) (sym read ∙ e)),
      λ f. read ∙ faults.fault-read l.said (schedule.accepted l.said) number f,
    )

-- An hours file is accepted exactly when it breaks none of the rules for 43 to 45.
pub accepted-breaks-none : (n : ℕ) (h : List ℕ) → ((s : Schedule) × (read_hours n h ≡ schedule.accepted s)) ↔ Kept (hours_rules n h)
accepted-breaks-none n h = (
  (λ a. first_or_none (hours_rules n h) (λ k. k) (λ m broken. hours.not_accepted (sym (first_fails schedule.refused (hours_rules n h) (schedule.accepted (laid h 5 n)) broken) ∙ sym (hours_follow h n) ∙ a.1))),
  λ k. (laid h 5 n, hours_follow h n ∙ kept_goes schedule.refused (hours_rules n h) (schedule.accepted (laid h 5 n)) k),
)

-- The first 288 bytes of a book and the first 278 of its hours decide.
pub prefixes_decide : (b h : List ℕ) (room : ℕ) → Bytes b → comparing_hours b h room ≡ comparing_hours (take 288 b) (take 278 h) room
prefixes_decide = comparing_hours_prefix

-- "then 42": of an accepted book and accepted hours, exactly when the buffer has fewer than two bytes for each pair that is listed; and a list has at most 120
pub too_short_exactly : (b h : List ℕ) (k : Book) (s : Schedule) → read_book b ≡ book.accepted k → read_hours (length k.templates) h ≡ schedule.accepted s
    → (room : ℕ) → (comparing_hours b h room ≡ refused 42) ↔ (room < 2 * length (sharing k s))
too_short_exactly b h k s e f room = short_exactly (sharing k s) room (comparing_hours_accepted b h room e f)

pub lists_are-short : (k : Book) (s : Schedule) → BookIn k → length (list_bytes (sharing k s)) ≤ 240
lists_are-short k s ok = omega (arith, list_size (sharing k s), kept-few (λ i j. clash k i j && share s i j) (length k.templates) ok.of_templates.1, ap length (sharing-kept k s))
