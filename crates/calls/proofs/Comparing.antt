-- The calls on a book, without and with hours: the answer, by the first test that fails, and what a call does, for whoever shows that a call is one. Assumes nothing.
use mathlib.Core.Path.{◌≡◌, refl, sym, ap, subst, ◌∙◌}
use mathlib.Core.Bool.{Bool, true, false, ◌&&◌}
use mathlib.Core.List.{List, [], ◌∷◌, ◌++◌}
use Prim.Native.Nat.{ℕ, ◌<◌, ◌≤◌}
use native.Mathlib.Omega.{arith}
use lib.Dec.{leb}
use lib.ListN.{length, take, drop}
use borrow.Author.Tests.{le-leb, lt-leb, leb-true}
use Rattle.model.specs.Lists.{pick, Bytes}
use Rattle.model.specs.Sheet.{Step, got, fault, times}
use Rattle.book.specs.Book as book
use Rattle.book.specs.Book.{Book, body, opens, ended, read_book, book_in, book_of}
use Rattle.book.specs.Pairs.{Pair, kept, clash, clashing, list_bytes}
use Rattle.schedule.specs.Schedule as schedule
use Rattle.schedule.specs.Schedule.{Interval, Schedule, some_intervals, in_week, tested, all_tested, read_hours, schedule_in, schedule_of}
use Rattle.schedule.specs.Shared.{share, sharing}
use Rattle.calls.specs.Calls.{Answer, refused, finished, written, decision, following, Decides, of_book, list_values, listing, comparing, of_hours, comparing_hours}
use Rattle.model.proofs.Lists.{by_test}
use Rattle.book.proofs.Reading.{read_prefix, accepted-encode}
use Rattle.book.proofs.Listed.{kept-few, kept_both, clashing-kept}
use Rattle.schedule.proofs.Reading as hours
use Rattle.calls.proofs.Operations.{not_finished}
use Rattle.calls.proofs.Refusals.{NotZero, not_zero, not_zero_require}

-- A list of pairs: 42, or its number and its bytes.
module _ (ps : List Pair) (room : ℕ) where
  pub listing-short : room < length (list_bytes ps) → listing ps room ≡ refused 42
  unfolding listing
  listing-short h = rw (lt-leb (length (list_bytes ps)) room h)

  pub listing-fits : length (list_bytes ps) ≤ room → listing ps room ≡ finished (list_values ps)
  unfolding listing
  listing-fits h = rw (le-leb (length (list_bytes ps)) room h)

  listing_not_zero : NotZero (listing ps room)
  unfolding listing
  listing_not_zero = not_zero_require (leb (length (list_bytes ps)) room) 42 _ (omega arith) tt

  listing_counts : listing ps room ≡ finished [] → ⊥
  unfolding listing
  listing_counts e = by_room (leb (length (list_bytes ps)) room) e
    where
      by_room : (t : Bool) → pick t (finished (list_values ps)) (refused 42) ≡ finished [] → ⊥
      by_room true q = let z : ◌≡◌ {A = ℕ} 0 1 = cc in omega arith
      by_room false q = not_finished q

-- The answer, by the first test that fails.
module _ (b : List ℕ) (room : ℕ) where
  pub comparing_book : {n : ℕ} → read_book b ≡ book.refused n → comparing b room ≡ refused n
  unfolding comparing
  comparing_book e = rw e

  pub comparing-accepted : {k : Book} → read_book b ≡ book.accepted k → comparing b room ≡ listing (clashing k) room
  unfolding comparing
  comparing-accepted e = rw e

module _ (b h : List ℕ) (room : ℕ) where
  pub comparing_hours_book : {n : ℕ} → read_book b ≡ book.refused n → comparing_hours b h room ≡ refused n
  unfolding comparing_hours
  comparing_hours_book e = rw e

  module _ {k : Book} (e : read_book b ≡ book.accepted k) where
    pub comparing_hours_hours : {n : ℕ} → read_hours (length k.templates) h ≡ schedule.refused n → comparing_hours b h room ≡ refused n
    unfolding comparing_hours
    comparing_hours_hours f = rw (e, f)

    pub comparing_hours_accepted : {s : Schedule} → read_hours (length k.templates) h ≡ schedule.accepted s → comparing_hours b h room ≡ listing (sharing k s) room
    unfolding comparing_hours
    comparing_hours_accepted f = rw (e, f)

-- 0 is the number of no refusal: a book's are 40 and 41, an hours file's 43 to 45.
book_numbers : (b : List ℕ) (n : ℕ) → read_book b ≡ book.refused n → (40 ≤ n) × (n ≤ 41)
unfolding read_book
book_numbers b n e = by_test (opens book.mark b)
    (λ t. of_ended (body (drop 5 b)) (rw t at e))
    (λ t. let shut = rw t at e in let k : 40 ≡ n = cc in omega arith)
  where
    of_ended : (s : Step Book) → ended s ≡ book.refused n → (40 ≤ n) × (n ≤ 41)
    of_ended (got k []) q = let z : ◌≡◌ {A = ℕ} 0 1 = cc in absurd (omega arith)
    of_ended (got k (x ∷ xs)) q = let m : 41 ≡ n = cc in omega arith
    of_ended (fault m) q = let m : 41 ≡ n = cc in omega arith

tested-numbers : (before : ℕ) (ws : List Interval) (go : schedule.Reading) (n : ℕ) → ((m : ℕ) → go ≡ schedule.refused m → 44 ≤ m) → tested before ws go ≡ schedule.refused n → 44 ≤ n
unfolding tested
tested-numbers before [] go n h e = h n e
tested-numbers before (w ∷ ws) go n h e = by_test (in_week w)
    (λ t. by_test (leb before w.start)
    (λ u. tested-numbers w.end ws go n h (rw (t, u) at e))
    (λ u. let shut = rw (t, u) at e in let k : 45 ≡ n = cc in omega arith))
    (λ t. let shut = rw t at e in let k : 44 ≡ n = cc in omega arith)

pub all-tested-numbers : (s : Schedule) (go : schedule.Reading) (n : ℕ) → ((m : ℕ) → go ≡ schedule.refused m → 44 ≤ m) → all_tested s go ≡ schedule.refused n → 44 ≤ n
unfolding all_tested
all-tested-numbers [] go n h e = h n e
all-tested-numbers (ws ∷ s) go n h e = tested-numbers 0 ws (all_tested s go) n (λ m q. all-tested-numbers s go m h q) e

hours_numbers : (c : ℕ) (h : List ℕ) (n : ℕ) → read_hours c h ≡ schedule.refused n → 43 ≤ n
unfolding read_hours
hours_numbers c h n e = by_test (opens schedule.mark h)
    (λ t. of_ended (times c some_intervals (drop 5 h)) (rw t at e))
    (λ t. let shut = rw t at e in let k : 43 ≡ n = cc in omega arith)
  where
    of_ended : (w : Step Schedule) → schedule.ended w ≡ schedule.refused n → 43 ≤ n
    of_ended (got s []) q = let m = all-tested-numbers s (schedule.accepted s) n (λ m z. hours.not_accepted (sym z)) q in omega arith
    of_ended (got s (x ∷ xs)) q = let m : 43 ≡ n = cc in omega arith
    of_ended (fault m) q = let m : 43 ≡ n = cc in omega arith

-- by what was read
by_book : (P : Answer → Type 0) (b : List ℕ) (go : Book → Answer) → ((k : Book) → read_book b ≡ book.accepted k → P (go k)) → ((n : ℕ) → 1 ≤ n → P (refused n)) → P (of_book (read_book b) go)
by_book P b go taken left = of_reading (read_book b) refl
  where
    of_reading : (r : book.Reading) → read_book b ≡ r → P (of_book r go)
    of_reading (book.accepted k) e = taken k e
    of_reading (book.refused n) e = left n (omega (arith, (book_numbers b n e).0))

by_hours : (P : Answer → Type 0) (c : ℕ) (h : List ℕ) (go : Schedule → Answer) → ((s : Schedule) → read_hours c h ≡ schedule.accepted s → P (go s)) → ((n : ℕ) → 1 ≤ n → P (refused n)) → P (of_hours (read_hours c h) go)
by_hours P c h go taken left = of_reading (read_hours c h) refl
  where
    of_reading : (r : schedule.Reading) → read_hours c h ≡ r → P (of_hours r go)
    of_reading (schedule.accepted s) e = taken s e
    of_reading (schedule.refused n) e = left n (omega (arith, hours_numbers c h n e))

pub comparing-refused : (b : List ℕ) (room n : ℕ) → comparing b room ≡ refused n → 1 ≤ n
unfolding comparing
comparing-refused b room = not_zero (comparing b room) (by_book NotZero b _ (λ k e. listing_not_zero (clashing k) room) (λ n l. l))

pub comparing_hours_refused : (b h : List ℕ) (room n : ℕ) → comparing_hours b h room ≡ refused n → 1 ≤ n
unfolding comparing_hours
comparing_hours_refused b h room =
    not_zero (comparing_hours b h room)
    (by_book NotZero b _ (λ k e. by_hours NotZero (length k.templates) h _ (λ s f. listing_not_zero (sharing k s) room) (λ n l. l)) (λ n l. l))

-- and an answer that is finished has a number
pub comparing_counts : (b : List ℕ) (room : ℕ) → comparing b room ≡ finished [] → ⊥
unfolding comparing
comparing_counts b room = by_book (λ a. a ≡ finished [] → ⊥) b _ (λ k e. listing_counts (clashing k) room) (λ n l q. not_finished q)

pub comparing_hours_counts : (b h : List ℕ) (room : ℕ) → comparing_hours b h room ≡ finished [] → ⊥
unfolding comparing_hours
comparing_hours_counts b h room =
    by_book (λ a. a ≡ finished [] → ⊥) b _
    (λ k e. by_hours (λ a. a ≡ finished [] → ⊥) (length k.templates) h _ (λ s f. listing_counts (sharing k s) room) (λ n l q. not_finished q))
    (λ n l q. not_finished q)

-- The first 288 bytes of a book and the first 278 of an hours file decide.
pub comparing_prefix : (b : List ℕ) (room : ℕ) → comparing b room ≡ comparing (take 288 b) room
unfolding comparing
comparing_prefix b room = ap (λ r. of_book r (λ k. listing (clashing k) room)) (read_prefix b)

pub comparing_hours_prefix : (b h : List ℕ) (room : ℕ) → Bytes b → comparing_hours b h room ≡ comparing_hours (take 288 b) (take 278 h) room
unfolding comparing_hours
comparing_hours_prefix b h room y =
    of_hours_lem (read_book b) refl ∙ ap (λ r. of_book r (λ k. of_hours (read_hours (length k.templates) (take 278 h)) (λ s. listing (sharing k s) room))) (read_prefix b)
  where
    of_hours_lem : (r : book.Reading) → read_book b ≡ r
        → of_book r (λ k. of_hours (read_hours (length k.templates) h) (λ s. listing (sharing k s) room)) ≡ of_book r (λ k. of_hours (read_hours (length k.templates) (take 278 h)) (λ s. listing (sharing k s) room))
    of_hours_lem (book.accepted k) e = ap (λ r. of_hours r (λ s. listing (sharing k s) room)) (hours.read_prefix (length k.templates) (accepted-encode b y e).1.of_templates.1 h)
    of_hours_lem (book.refused n) e = refl

-- What a call does: a refusal leaves the buffer; else the list is at its front.
pub decides_refused : (a : Answer) (before : List ℕ) (n : ℕ) → a ≡ refused n → Decides a before (refused n) before
decides_refused a before n e = (sym (ap decision e), sym (ap (λ z. written (following z) before) e))

pub decides_listed : (ps : List Pair) (before : List ℕ) → length (list_bytes ps) ≤ length before → (after : List ℕ) (n : ℕ) → n ≡ length ps
    → after ≡ list_bytes ps ++ drop (length (list_bytes ps)) before → Decides (listing ps (length before)) before (finished (n ∷ [])) after
decides_listed ps before enough after n count e =
    let f = listing-fits ps (length before) enough in
    (ap (λ m. finished (m ∷ [])) count ∙ sym (ap decision f), e ∙ sym (ap (λ a. written (following a) before) f))

-- What an answer that is finished tells.
pub record Listed (ps : List Pair) (before after : List ℕ) (values : List ℕ) : Type 0 where
  pub enough : length (list_bytes ps) ≤ length before
  pub number : values ≡ length ps ∷ []
  pub bytes : after ≡ list_bytes ps ++ drop (length (list_bytes ps)) before

finished-same : {vs ws : List ℕ} → finished vs ≡ finished ws → vs ≡ ws
finished-same e = cc

module _ (before after values : List ℕ) where
  abbrev Done : Answer → Type 0
  Done a = (finished values ≡ decision a) × (after ≡ written (following a) before)

  listing_done : (ps : List Pair) → Done (listing ps (length before)) → Listed ps before after values
  unfolding listing
  listing_done ps call = by_room (leb (length (list_bytes ps)) (length before)) refl call.0 call.1
    where
      by_room : (t : Bool) → leb (length (list_bytes ps)) (length before) ≡ t → finished values ≡ decision (pick t (finished (list_values ps)) (refused 42))
          → after ≡ written (following (pick t (finished (list_values ps)) (refused 42))) before → Listed ps before after values
      by_room true h a w = record { enough = leb-true _ _ h; number = finished-same a; bytes = w }
      by_room false h a w = not_finished (sym a)

  -- the book, and with hours the schedule, that was read
  pub finished-listed : (b : List ℕ) → Decides (comparing b (length before)) before (finished values) after → (read_book b ≡ book.accepted (book_of b)) × Listed (clashing (book_of b)) before after values
  unfolding comparing book_of
  finished-listed b call =
      by_book (λ a. Done a → (read_book b ≡ book.accepted (book_in (read_book b))) × Listed (clashing (book_in (read_book b))) before after values) b _
      (λ k e d. let is : book_in (read_book b) ≡ k = ap book_in e in (e ∙ ap book.accepted (sym is), subst (λ z. Listed (clashing z) before after values) (sym is) (listing_done (clashing k) d)))
      (λ n l d. not_finished (sym d.0))
      call

  abbrev Told : List ℕ → List ℕ → Book → Type 0
  Told b h k =
      (read_book b ≡ book.accepted k) × (read_hours (length k.templates) h ≡ schedule.accepted (schedule_in (read_hours (length k.templates) h)))
      × Listed (sharing k (schedule_in (read_hours (length k.templates) h))) before after values

  pub finished_with_hours : (b h : List ℕ) → Decides (comparing_hours b h (length before)) before (finished values) after
      → (read_book b ≡ book.accepted (book_of b)) × (read_hours (length (book_of b).templates) h ≡ schedule.accepted (schedule_of (length (book_of b).templates) h))
      × Listed (sharing (book_of b) (schedule_of (length (book_of b).templates) h)) before after values
  unfolding comparing_hours book_of schedule_of
  finished_with_hours b h call =
      by_book (λ a. Done a → Told b h (book_in (read_book b))) b _
      (λ k e d.
      let is : book_in (read_book b) ≡ k = ap book_in e in
      subst (Told b h) (sym is)
      (by_hours (λ a. Done a → Told b h k) (length k.templates) h _
      (λ s f d. let said : schedule_in (read_hours (length k.templates) h) ≡ s = ap schedule_in f in (e, f ∙ ap schedule.accepted (sym said), subst (λ z. Listed (sharing k z) before after values) (sym said) (listing_done (sharing k s) d)))
      (λ n l d. not_finished (sym d.0))
      d))
      (λ n l d. not_finished (sym d.0))
      call

-- Those that clash and share a minute are the pairs that pass both tests.
pub sharing-kept : (k : Book) (s : Schedule) → sharing k s ≡ kept (λ i j. clash k i j && share s i j) (length k.templates)
unfolding sharing clashing
sharing-kept k s = kept_both (clash k) (share s) (length k.templates)

pub first-same : {m n : ℕ} → ◌≡◌ {A = List ℕ} (m ∷ []) (n ∷ []) → m ≡ n
first-same e = cc

-- There are no more than 120 of either.
few-listed : (t : ℕ → ℕ → Bool) (ps : List Pair) (n : ℕ) {before after values : List ℕ} → n ≤ 16 → ps ≡ kept t n → Listed ps before after values → (m : ℕ) → values ≡ m ∷ [] → m ≤ 120
few-listed t ps n small are l m e =
    let c : m ≡ length ps = first-same (sym e ∙ l.number) in
    omega (arith, kept-few t n small, ap length are)

module _ (b before after values : List ℕ) (y : Bytes b) (n : ℕ) (e : values ≡ n ∷ []) where
  pub few : Decides (comparing b (length before)) before (finished values) after → n ≤ 120
  few call =
      let c = finished-listed before after values b call in
      few-listed (clash (book_of b)) (clashing (book_of b)) (length (book_of b).templates) (accepted-encode b y c.0).1.of_templates.1 (clashing-kept (book_of b)) c.1 n e

  pub few_with_hours : (h : List ℕ) → Decides (comparing_hours b h (length before)) before (finished values) after → n ≤ 120
  few_with_hours h call =
      let c = finished_with_hours before after values b h call in
      let k = book_of b in
      few-listed (λ i j. clash k i j && share (schedule_of (length k.templates) h) i j) (sharing k (schedule_of (length k.templates) h)) (length k.templates)
      (accepted-encode b y c.0).1.of_templates.1 (sharing-kept k (schedule_of (length k.templates) h)) c.2 n e
