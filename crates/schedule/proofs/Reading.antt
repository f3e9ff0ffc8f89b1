-- Reading an hours file is right. `read-encode`: the bytes of a schedule within the ranges are read as that schedule. `accepted-encode`: accepted bytes are those of
-- their schedule, which is within the ranges. `read_prefix`: the first 278 bytes decide. Assumes nothing.
use mathlib.Core.Path.{◌≡◌, refl, sym, ap, ◌∙◌}
use mathlib.Core.Bool.{true}
use mathlib.Core.List.{List, [], ◌∷◌, ◌++◌, append-nil}
use Prim.Native.Nat.{ℕ, ◌+◌, ◌-◌, ◌*◌, ◌≤◌}
use native.Mathlib.Omega.{arith}
use lib.Dec.{leb, ltb}
use lib.ListN.{length, take, drop, length-drop}
use lib.Seq.{drop-append-le}
use borrow.Author.Tests.{le-leb, lt-ltb, leb-true, ltb-true}
use Rattle.model.specs.Lists.{starts_with, each, All, Bytes}
use Rattle.model.specs.Sheet.{Step, got, fault, ◌then◌, times, bytes_of}
use Rattle.model.proofs.Lists.{by_test, and_split, and_join, weaken}
use Rattle.model.proofs.Steps.{no-fault, same-got, went, longer, Within, within-got, within_more, within_then, within-times, prefix_decides}
use Rattle.model.proofs.Faithful.{rest_bytes, Exact, Faithful, Several, times_reads, times_exact}
use Rattle.model.proofs.Signed.{sixteen_bytes, high_byte, low_byte}
use Rattle.book.specs.Book.{count, opens}
use Rattle.book.proofs.Opening.{five_bytes, opens_longer}
use Rattle.book.proofs.Reading.{count_reads, count_exact, within_count}
use Rattle.schedule.specs.Schedule.{Interval, Schedule, minute, an_interval, some_intervals, Reading, accepted, refused, in_week, tested, all_tested, mark, ended, read_hours, encode_interval, encode_intervals, encode_hours, Minute, Minutes, Four, IntervalIn, Ordered, OwnIn, ScheduleIn, schedule_in, schedule_of, Admitted}

-- The bytes, without a look at the minutes: any numbers of 16 bits.
minute_exact : (xs : List ℕ) {m : ℕ} {zs : List ℕ} → Bytes xs → minute xs ≡ got m zs → Exact bytes_of Minute xs m zs
unfolding minute All
minute_exact [] y h = no-fault h
minute_exact (high ∷ []) y h = no-fault h
minute_exact (high ∷ low ∷ xs) y h =
    same-got (Exact bytes_of Minute (high ∷ low ∷ xs)) h
    (record { bytes = rw (high_byte high low y.1.0, low_byte high low y.1.0); ok = omega (arith, y.0, y.1.0) })

minute_faithful : Faithful minute bytes_of Minute
unfolding minute
minute_faithful = record { reads = λ m zs h. ap (λ n. got n zs) (sixteen_bytes m); exact = minute_exact }

interval_reads : (w : Interval) (zs : List ℕ) → Minutes w → an_interval (encode_interval w ++ zs) ≡ got w zs
unfolding an_interval
interval_reads w zs h =
    ap (λ (s : Step ℕ). s then (λ m ys. minute ys then (λ n zs. got (record { start = m; end = n }) zs))) (minute_faithful.reads w.start (bytes_of w.end ++ zs) h.0)
    ∙ ap (λ (s : Step ℕ). s then (λ n zs. got (record { start = w.start; end = n }) zs)) (minute_faithful.reads w.end zs h.1)

interval_exact : (xs : List ℕ) {w : Interval} {zs : List ℕ} → Bytes xs → an_interval xs ≡ got w zs → Exact encode_interval Minutes xs w zs
unfolding an_interval
interval_exact xs y h =
    let g = went (minute xs) _ h in
    let k = went (minute g.rest) _ g.second in
    let m = minute_exact xs y g.first in
    let n = minute_exact g.rest (rest_bytes (bytes_of g.value) g.rest m.bytes y).1 k.first in
    same-got (Exact encode_interval Minutes xs) k.second
    (record { bytes = m.bytes ∙ ap (λ ys. bytes_of g.value ++ ys) n.bytes; ok = (m.ok, n.ok) })

interval_faithful : Faithful an_interval encode_interval Minutes
interval_faithful = record { reads = interval_reads; exact = interval_exact }

intervals-read : (ws : List Interval) (zs : List ℕ) → Four ws → some_intervals (encode_intervals ws ++ zs) ≡ got ws zs
unfolding some_intervals
intervals-read ws zs h =
    ap (λ (s : Step ℕ). s then (λ n ys. times n an_interval ys)) (count_reads 0 4 (length ws) (each ws encode_interval ++ zs) (omega arith) h.0)
    ∙ times_reads an_interval encode_interval Minutes interval_faithful ws zs h.1

intervals_exact : (xs : List ℕ) {ws : List Interval} {zs : List ℕ} → Bytes xs → some_intervals xs ≡ got ws zs → Exact encode_intervals Four xs ws zs
unfolding some_intervals
intervals_exact xs {ws} y h =
    let g = went (count 0 4 xs) _ h in
    let c = count_exact 0 4 xs g.first in
    let t = times_exact an_interval encode_interval Minutes interval_faithful g.value g.rest (rest_bytes (g.value ∷ []) g.rest c.bytes y).1 g.second in
    record {
      bytes = c.bytes ∙ rw t.ok.0 (ap (λ ys. g.value ∷ ys) t.bytes);
      ok = (omega (arith, c.most, t.ok.0), t.ok.1);
    }

intervals_faithful : Faithful some_intervals encode_intervals Four
intervals_faithful = record { reads = intervals-read; exact = intervals_exact }

-- The minutes: a window that keeps its range, in order.
pub interval_in : (w : Interval) → in_week w ≡ true → IntervalIn w
interval_in w h = let a = and_split (ltb w.start w.end) (leb w.end 10080) h in record { some = ltb-true _ _ a.0; within = leb-true _ _ a.1 }

pub in_interval : (w : Interval) → IntervalIn w → in_week w ≡ true
in_interval w h = and_join (lt-ltb _ _ h.some) (le-leb _ _ h.within)

pub tested_goes : (before : ℕ) (ws : List Interval) (go : Reading) → All IntervalIn ws → Ordered before ws → tested before ws go ≡ go
unfolding tested All Ordered
tested_goes before [] go h o = refl
tested_goes before (w ∷ ws) go h o = rw (in_interval w h.0, le-leb before w.start o.0) (tested_goes w.end ws go h.1 o.1)

all-tested_goes : (s : Schedule) (go : Reading) → All OwnIn s → all_tested s go ≡ go
unfolding all_tested All
all-tested_goes [] go h = refl
all-tested_goes (ws ∷ s) go h = tested_goes 0 ws (all_tested s go) h.0.each_in h.0.in_order ∙ all-tested_goes s go h.1

pub not_accepted : {P : Type 0} {n : ℕ} {s : Schedule} → refused n ≡ accepted s → P
not_accepted e = let z : ◌≡◌ {A = ℕ} 0 1 = cc in absurd (omega arith)

accepted-tested : (before : ℕ) (ws : List Interval) (go : Reading) {s : Schedule} → tested before ws go ≡ accepted s → All IntervalIn ws × Ordered before ws × (go ≡ accepted s)
unfolding tested All Ordered
accepted-tested before [] go h = (tt, tt, h)
accepted-tested before (w ∷ ws) go h = by_test (in_week w)
    (λ e. by_test (leb before w.start)
    (λ f. let r = accepted-tested w.end ws go (rw (e, f) at h) in ((interval_in w e, r.0), (leb-true _ _ f, r.1), r.2))
    (λ f. not_accepted (rw (e, f) at h)))
    (λ e. not_accepted (rw e at h))

accepted-all-tested : (s : Schedule) (go : Reading) {r : Schedule} → All Four s → all_tested s go ≡ accepted r → All OwnIn s
unfolding all_tested All
accepted-all-tested [] go f h = tt
accepted-all-tested (ws ∷ s) go f h =
    let a = accepted-tested 0 ws (all_tested s go) h in
    (record { few = f.0.0; each_in = a.0; in_order = a.1 }, accepted-all-tested s go f.1 a.2)

pub all-tested_through : (s : Schedule) (go : Reading) {r : Schedule} → all_tested s go ≡ accepted r → go ≡ accepted r
unfolding all_tested
all-tested_through [] go h = h
all-tested_through (ws ∷ s) go h = all-tested_through s go (accepted-tested 0 ws (all_tested s go) h).2

-- The bytes of a schedule are read as that schedule.
four_minutes : (ws : List Interval) → OwnIn ws → Four ws
four_minutes ws h = (h.few, weaken IntervalIn Minutes ws (λ w i. (omega (arith, i.some, i.within), omega (arith, i.within))) h.each_in)

-- of any schedule with at most four intervals each, of 16 bits, the minutes are tested
pub read-any : (n : ℕ) (s : Schedule) → length s ≡ n → All Four s → read_hours n (encode_hours s) ≡ all_tested s (accepted s)
unfolding read_hours encode_hours opens starts_with
read-any n s one_each h =
    let bytes : List ℕ = each s encode_intervals in
    rw (le-leb 5 (length (mark ++ (bytes_of 1 ++ bytes))) (omega arith))
    (ap (λ z. ended (times z some_intervals bytes)) (sym one_each)
    ∙ ap (λ z. ended (times (length s) some_intervals z)) (sym (append-nil bytes))
    ∙ ap ended (times_reads some_intervals encode_intervals Four intervals_faithful s [] h))

pub read-encode : (n : ℕ) (s : Schedule) → ScheduleIn n s → read_hours n (encode_hours s) ≡ accepted s
read-encode n s h = read-any n s h.one_each (weaken OwnIn Four s four_minutes h.all_in) ∙ all-tested_goes s (accepted s) h.all_in

-- Accepted bytes are those of their schedule.
record Walked (w : Step Schedule) (s : Schedule) : Type 0 where
  said : Schedule
  is : w ≡ got said []
  passed : all_tested said (accepted said) ≡ accepted s

walked : (w : Step Schedule) {s : Schedule} → ended w ≡ accepted s → Walked w s
walked (got r []) h = record { said = r; is = refl; passed = h }
walked (got r (x ∷ xs)) h = not_accepted h
walked (fault n) h = not_accepted h

accepted-body : (n : ℕ) (b : List ℕ) {s : Schedule} → read_hours n b ≡ accepted s → (opens mark b ≡ true) × Walked (times n some_intervals (drop 5 b)) s
unfolding read_hours
accepted-body n b h =
    by_test (opens mark b)
    (λ e. (e, walked (times n some_intervals (drop 5 b)) (rw e at h)))
    (λ e. not_accepted (rw e at h))

pub accepted-same : {r s : Schedule} → accepted r ≡ accepted s → r ≡ s
accepted-same e = cc

-- bytes that the walk reads to their end
pub walked_encode : (n : ℕ) (b : List ℕ) {s : Schedule} → Bytes b → opens mark b ≡ true → times n some_intervals (drop 5 b) ≡ got s [] → (b ≡ encode_hours s) × Several Four n s
unfolding encode_hours
walked_encode n b {s} y o w =
    let f = five_bytes mark b refl o in
    let t = times_exact some_intervals encode_intervals Four intervals_faithful n (drop 5 b) (rest_bytes (mark ++ bytes_of 1) (drop 5 b) f y).1 w in
    (f ∙ ap (λ ys. mark ++ (bytes_of 1 ++ ys)) (t.bytes ∙ append-nil (each s encode_intervals)), t.ok)

pub accepted-encode : (n : ℕ) (b : List ℕ) {s : Schedule} → Bytes b → read_hours n b ≡ accepted s → (b ≡ encode_hours s) × ScheduleIn n s
accepted-encode n b {s} y h =
    let a = accepted-body n b h in
    let r : Schedule = a.1.said in
    let w = walked_encode n b y a.0 a.1.is in
    let k = accepted-all-tested r (accepted r) w.1.1 a.1.passed in
    let e : r ≡ s = accepted-same (all-tested_through r (accepted r) a.1.passed) in
    (w.0 ∙ ap encode_hours e, record { one_each = ap length (sym e) ∙ w.1.0; all_in = rw e at k })

-- What callers use of accepted bytes.
accepted_schedule : (n : ℕ) (b : List ℕ) (r : Reading) {s : Schedule} → read_hours n b ≡ r → r ≡ accepted s → read_hours n b ≡ accepted (schedule_in (read_hours n b))
accepted_schedule n b (accepted s) e h = e ∙ ap (λ x. accepted (schedule_in x)) (sym e)
accepted_schedule n b (refused m) e h = not_accepted h

pub accepted-admitted : (n : ℕ) (b : List ℕ) {s : Schedule} → Bytes b → read_hours n b ≡ accepted s → Admitted n b
unfolding schedule_of
accepted-admitted n b y h = let e = accepted_schedule n b (read_hours n b) refl h in (e, (accepted-encode n b y e).1)

-- A bounded prefix decides: the mark and the version, and for each template a count and four windows of 4 bytes.
minute_longer : (xs ys : List ℕ) → 2 ≤ length xs → minute (xs ++ ys) ≡ longer ys (minute xs)
unfolding minute
minute_longer [] ys h = absurd (omega arith)
minute_longer (x ∷ []) ys h = absurd (omega arith)
minute_longer (x ∷ z ∷ xs) ys h = refl

minute_spends : (xs : List ℕ) {m : ℕ} {zs : List ℕ} → minute xs ≡ got m zs → length xs ≤ 2 + length zs
unfolding minute
minute_spends [] h = no-fault h
minute_spends (x ∷ []) h = no-fault h
minute_spends (x ∷ z ∷ xs) h = same-got (λ m zs. length (x ∷ z ∷ xs) ≤ 2 + length zs) h (omega arith)

within-minute : Within 2 minute
within-minute = record { local = minute_longer; spends = minute_spends }

within_interval : Within 4 an_interval
unfolding an_interval
within_interval = within_then 2 2 minute _ within-minute (λ xs m zs e. within_then 2 0 minute _ within-minute (λ xs n zs e. within-got _))

within-intervals : Within 17 some_intervals
unfolding some_intervals
within-intervals =
    within_then 1 16 (count 0 4) _ (within_count 0 4)
    (λ xs n zs e. within_more (within-times 4 an_interval within_interval n) (let m = (count_exact 0 4 xs e).most in omega arith))

within_all : (n : ℕ) → Within (n * 17) (times n some_intervals)
within_all n = within-times 17 some_intervals within-intervals n

longer_ended : (ys : List ℕ) (w : Step Schedule) → ((s : Schedule) (zs : List ℕ) → w ≡ got s zs → 1 ≤ length zs) → ended (longer ys w) ≡ ended w
longer_ended ys (got s []) h = absurd (let z = h s [] refl in omega arith)
longer_ended ys (got s (z ∷ zs)) h = refl
longer_ended ys (fault n) h = refl

read_longer : (n : ℕ) (xs ys : List ℕ) → 6 + n * 17 ≤ length xs → read_hours n (xs ++ ys) ≡ read_hours n xs
unfolding read_hours
read_longer n xs ys h =
    let m : length (drop 5 xs) ≡ length xs - 5 = length-drop 5 xs in
    rw (
      opens_longer mark xs ys refl (omega arith),
      drop-append-le 5 xs ys (omega arith),
      (within_all n).local (drop 5 xs) ys (omega arith),
      longer_ended ys (times n some_intervals (drop 5 xs)) (λ s zs e. let k = (within_all n).spends (drop 5 xs) e in omega arith),
    )

pub read_prefix : (n : ℕ) → n ≤ 16 → (b : List ℕ) → read_hours n b ≡ read_hours n (take 278 b)
read_prefix n few = prefix_decides (read_hours n) 278 (λ xs ys h. read_longer n xs ys (omega arith))

-- and no accepted file is longer than 277 bytes
pub hours_short : (n : ℕ) → n ≤ 16 → (b : List ℕ) {s : Schedule} → read_hours n b ≡ accepted s → length b ≤ 277
hours_short n few b h =
    let a = accepted-body n b h in
    let k = (within_all n).spends (drop 5 b) a.1.is in
    let m = length-drop 5 b in
    omega arith
