-- An hours file read by offsets: where its bytes fit the counts, the walk reads what stands there, and else it ends in a fault or leaves bytes over. Assumes nothing.
use mathlib.Core.Path.{◌≡◌, refl, ap}
use mathlib.Core.Bool.{Bool, true, false, ◌&&◌}
use mathlib.Core.List.{List, [], ◌∷◌}
use Prim.Native.Nat.{ℕ, zero, suc, ◌+◌, ◌*◌, ◌<◌, ◌≤◌}
use native.Mathlib.Numerals.{add-one}
use native.Mathlib.Omega.{arith}
use lib.Dec.{leb, ltb}
use lib.ListN.{length, drop, drop_of_length-le}
use lib.Seq.{drop-cons}
use borrow.Author.Tests.{leb-true, leb-false, ltb-true, ltb-false, eqb-true, eqb-false}
use Rattle.model.specs.Lists.{between}
use Rattle.model.specs.Sheet.{Step, got, fault, ◌then◌, times, byte}
use Rattle.model.proofs.Lists.{never, by_test, and_split}
use Rattle.model.proofs.Opening.{between_in}
use Rattle.book.specs.Book.{count, opens}
use Rattle.schedule.specs.Schedule.{Schedule, minute, an_interval, some_intervals, accepted, refused, all_tested, mark, ended, read_hours}
use Rattle.schedule.specs.Offsets.{interval_at, minute_at, standing, own_at, next_at, laid, fits}

module _ (b : List ℕ) where
  -- A minute, an interval, several.
  minute_here : (k : ℕ) → k + 2 ≤ length b → minute (drop k b) ≡ got (minute_at b k) (drop (k + 2) b)
  unfolding minute
  minute_here k h =
      let e : suc (suc k) ≡ k + 2 = omega arith in
      let f : suc k ≡ k + 1 = omega arith in
      rw (drop-cons b k 0 (omega arith), drop-cons b (suc k) 0 (omega arith), e, f)

  minute-lacks : (k : ℕ) → length b < k + 2 → minute (drop k b) ≡ fault 43
  unfolding minute
  minute-lacks k h = by_test (ltb k (length b))
      (λ t.
      let m : length b ≤ suc k = omega arith in
      rw (drop-cons b k 0 (ltb-true _ _ t), drop_of_length-le b m))
      (λ t. rw (drop_of_length-le b (ltb-false k (length b) t)))

  interval_here : (k : ℕ) → k + 4 ≤ length b → an_interval (drop k b) ≡ got (interval_at b k) (drop (k + 4) b)
  unfolding an_interval
  interval_here k h =
      let e : k + 2 + 2 ≡ k + 4 = omega arith in
      rw (minute_here k (omega arith), minute_here (k + 2) (omega arith), e)

  interval_lacks : (k : ℕ) → length b < k + 4 → an_interval (drop k b) ≡ fault 43
  unfolding an_interval
  interval_lacks k h = by_test (ltb (length b) (k + 2))
      (λ t. rw (minute-lacks k (ltb-true _ _ t)))
      (λ t. rw (minute_here k (ltb-false (length b) (k + 2) t), minute-lacks (k + 2) (omega arith)))

  pub intervals_here : (n k : ℕ) → k + 4 * n ≤ length b → times n an_interval (drop k b) ≡ got (standing b k n) (drop (k + 4 * n) b)
  unfolding times standing
  intervals_here zero k h = let e : k ≡ k + 4 * 0 = omega arith in ap (λ z. got [] (drop z b)) e
  intervals_here (suc n) k h =
      let e : k + 4 + 4 * n ≡ k + 4 * suc n = omega arith in
      rw (interval_here k (omega arith), intervals_here n (k + 4) (omega arith), e)

  intervals_lack : (n k : ℕ) → k ≤ length b → length b < k + 4 * n → times n an_interval (drop k b) ≡ fault 43
  unfolding times
  intervals_lack zero k l h = absurd (omega arith)
  intervals_lack (suc n) k l h = by_test (ltb (length b) (k + 4))
      (λ t. rw (interval_lacks k (ltb-true _ _ t)))
      (λ t. let m = ltb-false (length b) (k + 4) t in rw (interval_here k m, intervals_lack n (k + 4) m (omega arith)))

  -- A template: its count and its intervals.
  module _ (k : ℕ) (inside : k < length b) where
    count_here : byte b k ≤ 4 → count 0 4 (drop k b) ≡ got (byte b k) (drop (k + 1) b)
    unfolding count
    count_here h = rw (drop-cons b k 0 inside, between_in 0 4 (byte b k) (omega arith) h, add-one)

    count-above : 4 < byte b k → count 0 4 (drop k b) ≡ fault 41
    unfolding count
    count-above h = by_test (between 0 4 (byte b k))
        (λ t. let m = (and_split (leb 0 (byte b k)) (leb (byte b k) 4) t).1 in absurd (omega (arith, leb-true (byte b k) 4 m)))
        (λ t. rw (drop-cons b k 0 inside, t))

    pub own_here : byte b k ≤ 4 → next_at b k ≤ length b → some_intervals (drop k b) ≡ got (own_at b k) (drop (next_at b k) b)
    unfolding some_intervals
    own_here h l = rw (count_here h, intervals_here (byte b k) (k + 1) l)

    own-lacks : byte b k ≤ 4 → length b < next_at b k → some_intervals (drop k b) ≡ fault 43
    unfolding some_intervals
    own-lacks h l = rw (count_here h, intervals_lack (byte b k) (k + 1) (omega arith) l)

    own-above : 4 < byte b k → some_intervals (drop k b) ≡ fault 41
    unfolding some_intervals
    own-above h = rw (count-above h)

  own_missing : (k : ℕ) → length b ≤ k → some_intervals (drop k b) ≡ fault 41
  unfolding some_intervals count
  own_missing k h = rw (drop_of_length-le b h)

  -- All of them.
  pub fits-parts : (k n : ℕ) → fits b k (suc n) ≡ true → (k < length b) × (byte b k ≤ 4) × (fits b (next_at b k) n ≡ true)
  unfolding fits
  fits-parts k n h =
      let a = and_split (ltb k (length b)) (leb (byte b k) 4 && fits b (next_at b k) n) h in
      let c = and_split (leb (byte b k) 4) (fits b (next_at b k) n) a.1 in
      (ltb-true _ _ a.0, leb-true _ _ c.0, c.1)

  pub fits-inside : (k n : ℕ) → fits b k n ≡ true → k ≤ length b
  unfolding fits
  fits-inside k zero h = let e = eqb-true k (length b) h in omega arith
  fits-inside k (suc n) h = let p = fits-parts k n h in omega (arith, p.0)

  pub walk-fits : (k n : ℕ) → fits b k n ≡ true → times n some_intervals (drop k b) ≡ got (laid b k n) []
  unfolding times laid fits
  walk-fits k zero h = let e = eqb-true k (length b) h in let m : length b ≤ k = omega arith in ap (got []) (drop_of_length-le b m)
  walk-fits k (suc n) h =
      let p = fits-parts k n h in
      rw (own_here k p.0 p.1 (fits-inside (next_at b k) n p.2), walk-fits (next_at b k) n p.2)

-- a walk that does not end with the bytes
abbrev astray : {A : Type 0} → Step A → Bool
astray (got a []) = false
astray (got a (x ∷ xs)) = true
astray (fault n) = true

astray_wrapped : {A B : Type 0} (s : Step A) (f : A → B) → astray s ≡ true → astray (s then (λ a zs. got (f a) zs)) ≡ true
astray_wrapped (got a []) f h = h
astray_wrapped (got a (x ∷ xs)) f h = refl
astray_wrapped (fault n) f h = refl

astray_ended : (s : Step Schedule) → astray s ≡ true → ended s ≡ refused 43
astray_ended (got a []) h = never h
astray_ended (got a (x ∷ xs)) h = refl
astray_ended (fault n) h = refl

module _ (b : List ℕ) where
  walk_strays : (k n : ℕ) → k ≤ length b → fits b k n ≡ false → astray (times n some_intervals (drop k b)) ≡ true
  unfolding times fits
  walk_strays k zero l h =
      let e = eqb-false k (length b) h in
      let m : k < length b = by_test (ltb k (length b)) (λ t. ltb-true _ _ t) (λ t. absurd (e (let z = ltb-false k (length b) t in omega arith))) in
      rw (drop-cons b k 0 m)
  walk_strays k (suc n) l h = by_test (ltb k (length b))
      (λ t. let i = ltb-true k (length b) t in by_test (leb (byte b k) 4)
      (λ u. let c = leb-true (byte b k) 4 u in by_test (leb (next_at b k) (length b))
      (λ v.
      let m = leb-true (next_at b k) (length b) v in
      rw (own_here b k i c m)
      (astray_wrapped (times n some_intervals (drop (next_at b k) b)) (λ more. own_at b k ∷ more) (walk_strays (next_at b k) n m (rw (t, u) at h))))
      (λ v. rw (own-lacks b k i c (leb-false (next_at b k) (length b) v))))
      (λ u. rw (own-above b k i (leb-false (byte b k) 4 u))))
      (λ t. rw (own_missing b k (ltb-false k (length b) t)))

  module _ (n : ℕ) where
    -- the answer, by the tests in turn
    pub read_shut : opens mark b ≡ false → read_hours n b ≡ refused 43
    unfolding read_hours
    read_shut e = rw e

    module _ (o : opens mark b ≡ true) (l : 5 ≤ length b) where
      pub read_strays : fits b 5 n ≡ false → read_hours n b ≡ refused 43
      unfolding read_hours
      read_strays e = rw o (astray_ended (times n some_intervals (drop 5 b)) (walk_strays 5 n l e))

      pub read_fits : fits b 5 n ≡ true → read_hours n b ≡ all_tested (laid b 5 n) (accepted (laid b 5 n))
      unfolding read_hours
      read_fits e = rw (o, walk-fits b 5 n e)
