-- Two templates share a minute exactly when an interval of the one and an interval of the other each start before the other ends. Assumes nothing.
use mathlib.Core.Path.{◌≡◌, refl, sym}
use mathlib.Core.Bool.{Bool, true, false, ◌&&◌}
use mathlib.Core.List.{List, [], ◌∷◌}
use mathlib.Core.Logic.{◌↔◌}
use Prim.Native.Nat.{ℕ, zero, suc, ◌<◌}
use native.Mathlib.Omega.{arith}
use lib.Dec.{leb, ltb}
use lib.ListN.{length, get_or}
use borrow.Author.Tests.{le-leb, lt-ltb, leb-true, ltb-true, ltb-false}
use Rattle.model.specs.Lists.{any}
use Rattle.model.proofs.Keeping.{range_out, range_in}
use Rattle.model.proofs.Lists.{never, by_test, and_split, and_join, or_left, or_right, or_cases, at}
use Rattle.schedule.specs.Schedule.{Interval, Schedule, intervals, IntervalIn, OwnIn, ScheduleIn}
use Rattle.schedule.specs.Shared.{during, sent, share, Sent, Share, overlap, overlaps}

abbrev nothing : Interval
nothing = record { start = 0; end = 0 }

-- Some element of a list passes a test.
module _ {A : Type 0} (p : A → Bool) (d : A) where
  any_here : (xs : List A) (i : ℕ) → i < length xs → p (get_or xs i d) ≡ true → any p xs ≡ true
  unfolding any
  any_here [] i h e = absurd (omega arith)
  any_here (x ∷ xs) zero h e = or_left (any p xs) e
  any_here (x ∷ xs) (suc i) h e = or_right (p x) (any_here xs i (omega arith) e)

  record Some (xs : List A) : Type 0 where
    place : ℕ
    inside : place < length xs
    passes : p (get_or xs place d) ≡ true

  any-there : (xs : List A) → any p xs ≡ true → Some xs
  unfolding any
  any-there [] h = never h
  any-there (x ∷ xs) h = or_cases (p x) (any p xs) h
      (λ e. record { place = 0; inside = omega arith; passes = e })
      (λ e. let s = any-there xs e in record { place = suc s.place; inside = omega (arith, s.inside); passes = s.passes })

same_truth : (a b : Bool) → (a ≡ true → b ≡ true) → (b ≡ true → a ≡ true) → a ≡ b
same_truth true true f g = refl
same_truth true false f g = sym (f refl)
same_truth false true f g = g refl
same_truth false false f g = refl

-- What the tests say of a minute.
pub sent_means : (ws : List Interval) (m : ℕ) → (sent ws m ≡ true) ↔ Sent ws m
unfolding sent
sent_means ws m = (
  (λ h.
      let s = any-there (λ w. during w m) nothing ws h in
      let w = get_or ws s.place nothing in
      let e = and_split (leb w.start m) (ltb m w.end) s.passes in
      record { number = s.place; there = s.inside; from_start = leb-true _ _ e.0; before_end = ltb-true _ _ e.1 }),
  λ h. any_here (λ w. during w m) nothing ws h.number h.there (and_join (le-leb _ _ h.from_start) (lt-ltb _ _ h.before_end)),
)

-- an interval's minutes are in the week
module _ (n : ℕ) (s : Schedule) (ok : ScheduleIn n s) where
  pub one_in : (i v : ℕ) → i < n → v < length (intervals s i) → IntervalIn (get_or (intervals s i) v nothing)
  one_in i v h l = at IntervalIn (intervals s i) v nothing (at OwnIn s i [] ok.all_in (omega (arith, ok.one_each))).each_in l

  module _ (i j : ℕ) (hi : i < n) (hj : j < n) where
    share-there : Share s i j → share s i j ≡ true
    unfolding share
    share-there h =
        let f = h.of_first in
        let w = one_in i f.number hi f.there in
        range_in (λ m. sent (intervals s i) m && sent (intervals s j) m) 0 10080 h.minute (omega arith) (omega (arith, f.before_end, w.within))
        (and_join ((sent_means (intervals s i) h.minute).1 f) ((sent_means (intervals s j) h.minute).1 h.of_second))

    there-share : share s i j ≡ true → Share s i j
    unfolding share
    there-share h =
        let m = range_out (λ m. sent (intervals s i) m && sent (intervals s j) m) 0 10080 h in
        let e = and_split (sent (intervals s i) m.0) (sent (intervals s j) m.0) m.2 in
        record { minute = m.0; of_first = (sent_means (intervals s i) m.0).0 e.0; of_second = (sent_means (intervals s j) m.0).0 e.1 }

    -- two templates share a minute: the test, and what it tests
    pub share_means : (share s i j ≡ true) ↔ Share s i j
    share_means = (there-share, share-there)

    -- by the ends: the later of the two starts is a minute of both
    overlaps-share : overlaps (intervals s i) (intervals s j) ≡ true → Share s i j
    unfolding overlaps
    overlaps-share h =
        let v = any-there (λ v. any (overlap v) (intervals s j)) nothing (intervals s i) h in
        let a = get_or (intervals s i) v.place nothing in
        let w = any-there (overlap a) nothing (intervals s j) v.passes in
        let b = get_or (intervals s j) w.place nothing in
        let e = and_split (ltb a.start b.end) (ltb b.start a.end) w.passes in
        let p = one_in i v.place hi v.inside in
        let q = one_in j w.place hj w.inside in
        by_test (ltb a.start b.start)
        (λ t. record {
          minute = b.start;
          of_first = record { number = v.place; there = v.inside; from_start = omega (arith, ltb-true a.start b.start t); before_end = ltb-true _ _ e.1 };
          of_second = record { number = w.place; there = w.inside; from_start = omega arith; before_end = q.some };
        })
        (λ t. record {
          minute = a.start;
          of_first = record { number = v.place; there = v.inside; from_start = omega arith; before_end = p.some };
          of_second = record { number = w.place; there = w.inside; from_start = ltb-false _ _ t; before_end = ltb-true _ _ e.0 };
        })

    share-overlaps : Share s i j → overlaps (intervals s i) (intervals s j) ≡ true
    unfolding overlaps
    share-overlaps h =
        let f = h.of_first in
        let g = h.of_second in
        let a = get_or (intervals s i) f.number nothing in
        let b = get_or (intervals s j) g.number nothing in
        any_here (λ v. any (overlap v) (intervals s j)) nothing (intervals s i) f.number f.there
        (any_here (overlap a) nothing (intervals s j) g.number g.there
        (and_join (lt-ltb a.start b.end (omega (arith, f.from_start, g.before_end))) (lt-ltb b.start a.end (omega (arith, g.from_start, f.before_end)))))

    -- and the two tests are the same
    pub overlaps_decides : overlaps (intervals s i) (intervals s j) ≡ share s i j
    overlaps_decides = same_truth _ _ (λ e. share-there (overlaps-share e)) (λ e. share-overlaps (there-share e))

-- Without intervals a template is never sent.
pub none-sent : (m : ℕ) → Sent [] m → ⊥
none-sent m h = omega (arith, h.there)

-- Two templates that may be sent in the whole week share its first minute.
pub whole_weeks_share : (s : Schedule) (i j : ℕ) → intervals s i ≡ record { start = 0; end = 10080 } ∷ [] → intervals s j ≡ record { start = 0; end = 10080 } ∷ [] → share s i j ≡ true
unfolding share sent any
whole_weeks_share s i j e f = range_in (λ m. sent (intervals s i) m && sent (intervals s j) m) 0 10080 0 (omega arith) (omega arith) (rw (e, f))
