-- What code that goes through an hours file by offsets needs at each turn, and what it knows of an accepted one. Assumes nothing.
use mathlib.Core.Path.{◌≡◌, refl, sym, ap, ◌∙◌}
use mathlib.Core.Bool.{Bool, true, false, ◌||◌}
use mathlib.Core.List.{List}
use Prim.Native.Nat.{ℕ, zero, suc, ◌+◌, ◌-◌, ◌<◌, ◌≤◌}
use native.Mathlib.Omega.{arith}
use lib.Dec.{leb, eqb}
use lib.ListN.{length}
use borrow.Author.Tests.{le-leb, lt-ltb, lt-leb, le-ltb}
use Rattle.model.specs.Lists.{pick, any}
use Rattle.model.specs.Sheet.{byte}
use Rattle.model.proofs.Lists.{by_test, or_left}
use Rattle.book.specs.Book.{opens}
use Rattle.book.proofs.Opening.{opens-long}
use Rattle.schedule.specs.Schedule.{Interval, Schedule, intervals, Reading, accepted, refused, in_week, tested, all_tested, mark, read_hours, schedule_of, Admitted}
use Rattle.schedule.specs.Offsets.{interval_at, standing, own_at, next_at, start_at, laid, fits}
use Rattle.schedule.proofs.Reading.{not_accepted, accepted-same, all-tested_through}
use Rattle.schedule.proofs.Offsets.{fits-parts, fits-inside, read_shut, read_strays, read_fits}

module _ (b : List ℕ) where
  -- The counts, i of n passed, the next one at offset k.
  module _ (k n i : ℕ) (h : i < n) where
    more_left : n - i ≡ suc (n - (i + 1))
    more_left = omega arith

    pub fits_missing : length b ≤ k → fits b k (n - i) ≡ false
    unfolding fits
    fits_missing l = rw (more_left, le-ltb k (length b) l)

    module _ (inside : k < length b) where
      pub fits-above : 4 < byte b k → fits b k (n - i) ≡ false
      unfolding fits
      fits-above l = rw (more_left, lt-ltb k (length b) inside, lt-leb (byte b k) 4 l)

      pub fits_goes : byte b k ≤ 4 → fits b k (n - i) ≡ fits b (next_at b k) (n - (i + 1))
      unfolding fits
      fits_goes l = rw (more_left, lt-ltb k (length b) inside, le-leb (byte b k) 4 l)

    -- where all fit
    pub fits_now : fits b k (n - i) ≡ true → (k < length b) × (byte b k ≤ 4) × (fits b (next_at b k) (n - (i + 1)) ≡ true)
    fits_now f = fits-parts b k (n - (i + 1)) (rw more_left at f)

    pub tested-template : (go : Reading) → all_tested (laid b k (n - i)) go ≡ tested 0 (own_at b k) (all_tested (laid b (next_at b k) (n - (i + 1))) go)
    unfolding all_tested laid
    tested-template go = rw more_left

    pub start_goes : start_at b k (n - i) ≡ start_at b (next_at b k) (n - (i + 1))
    unfolding start_at
    start_goes = rw more_left

  pub fits_done : (k n i : ℕ) → n ≤ i → fits b k (n - i) ≡ eqb k (length b)
  unfolding fits
  fits_done k n i h = let e : n - i ≡ 0 = omega arith in rw e

  pub tested_done : (k n i : ℕ) → n ≤ i → (go : Reading) → all_tested (laid b k (n - i)) go ≡ go
  unfolding all_tested laid
  tested_done k n i h go = let e : n - i ≡ 0 = omega arith in rw e

  pub start_done : (k n i : ℕ) → n ≤ i → start_at b k (n - i) ≡ k
  unfolding start_at
  start_done k n i h = let e : n - i ≡ 0 = omega arith in rw e

  -- The intervals of a template, w of c passed, the next one at offset k.
  module _ (before k c w : ℕ) (go : Reading) where
    pub intervals_done : c ≤ w → tested before (standing b k (c - w)) go ≡ go
    unfolding tested standing
    intervals_done h = let e : c - w ≡ 0 = omega arith in rw e

    pub interval_tested : w < c → tested before (standing b k (c - w)) go
        ≡ pick (in_week (interval_at b k)) (pick (leb before (interval_at b k).start) (tested (interval_at b k).end (standing b (k + 4) (c - (w + 1))) go) (refused 45)) (refused 44)
    unfolding tested standing
    interval_tested h = let e : c - w ≡ suc (c - (w + 1)) = omega arith in rw e

  -- whether some interval passes a test
  module _ (f : Interval → Bool) (k c w : ℕ) where
    pub some_done : c ≤ w → any f (standing b k (c - w)) ≡ false
    unfolding any standing
    some_done h = let e : c - w ≡ 0 = omega arith in rw e

    module _ (h : w < c) where
      more-intervals : c - w ≡ suc (c - (w + 1))
      more-intervals = omega arith

      pub some_here : f (interval_at b k) ≡ true → any f (standing b k (c - w)) ≡ true
      unfolding any standing
      some_here t = ap (λ m. any f (standing b k m)) more-intervals ∙ or_left (any f (standing b (k + 4) (c - (w + 1)))) t

      pub some-later : f (interval_at b k) ≡ false → any f (standing b k (c - w)) ≡ any f (standing b (k + 4) (c - (w + 1)))
      unfolding any standing
      some-later t = ap (λ m. any f (standing b k m)) more-intervals ∙ ap (λ x. x || any f (standing b (k + 4) (c - (w + 1)))) t

  -- By number.
  pub laid-at : (k n i : ℕ) → i < n → intervals (laid b k n) i ≡ own_at b (start_at b k i)
  unfolding laid start_at
  laid-at k zero i h = absurd (omega arith)
  laid-at k (suc n) zero h = refl
  laid-at k (suc n) (suc i) h = laid-at (next_at b k) n i (omega arith)

  pub starts_inside : (k n i : ℕ) → i < n → fits b k n ≡ true → (start_at b k i < length b) × (byte b (start_at b k i) ≤ 4) × (next_at b (start_at b k i) ≤ length b)
  unfolding start_at
  starts_inside k zero i h f = absurd (omega arith)
  starts_inside k (suc n) zero h f = let p = fits-parts b k n f in (p.0, p.1, fits-inside b (next_at b k) n p.2)
  starts_inside k (suc n) (suc i) h f = starts_inside (next_at b k) n i (omega arith) (fits-parts b k n f).2

-- Of an accepted file: it fits, and what it says is what stands there.
pub accepted-fits : (n : ℕ) (b : List ℕ) (s : Schedule) → read_hours n b ≡ accepted s → (fits b 5 n ≡ true) × (s ≡ laid b 5 n)
accepted-fits n b s h = by_test (opens mark b)
    (λ o. let l = opens-long mark b o in by_test (fits b 5 n)
    (λ f. (f, sym (accepted-same (all-tested_through (laid b 5 n) (accepted (laid b 5 n)) (sym (read_fits b n o l f) ∙ h)))))
    (λ f. not_accepted (sym (read_strays b n o l f) ∙ h)))
    (λ o. not_accepted (sym (read_shut b n o) ∙ h))

pub admitted-at : (n : ℕ) (b : List ℕ) → Admitted n b → (i : ℕ) → i < n → intervals (schedule_of n b) i ≡ own_at b (start_at b 5 i)
admitted-at n b a i h = ap (λ s. intervals s i) (accepted-fits n b (schedule_of n b) a.0).1 ∙ laid-at b 5 n i h

pub admitted-inside : (n : ℕ) (b : List ℕ) → Admitted n b → (i : ℕ) → i < n → (start_at b 5 i < length b) × (byte b (start_at b 5 i) ≤ 4) × (next_at b (start_at b 5 i) ≤ length b)
admitted-inside n b a i h = starts_inside b 5 n i h (accepted-fits n b (schedule_of n b) a.0).0
