-- The first window at fault, and that a refusal of the minutes is just its. Assumes nothing.
use mathlib.Core.Path.{◌≡◌, refl, sym, ap, subst, ◌∙◌}
use mathlib.Core.List.{List, [], ◌∷◌, ◌++◌}
use Prim.Native.Nat.{ℕ, ◌<◌}
use lib.Dec.{leb}
use borrow.Author.Tests.{le-leb, lt-leb, leb-true, leb-false}
use Rattle.model.specs.Lists.{pick, All}
use Rattle.model.proofs.Lists.{never, by_test}
use Rattle.schedule.specs.Schedule.{Interval, Schedule, Reading, refused, in_week, tested, all_tested, IntervalIn, Ordered}
use Rattle.schedule.proofs.Reading.{interval_in, in_interval, tested_goes}

-- out of the week, or within it and before the least start
pub data AtFault (least : ℕ) (w : Interval) (number : ℕ) : Type 0 where
  out_of_the_week : number ≡ 44 → (IntervalIn w → ⊥) → AtFault least w number
  too_early : number ≡ 45 → IntervalIn w → w.start < least → AtFault least w number

-- where the last of some windows ends, or else so much
unfoldable pub end_after : ℕ → List Interval → ℕ
end_after least [] = least
end_after least (w ∷ ws) = end_after w.end ws

pub record FirstFault (s : Schedule) (number : ℕ) : Type 0 where
  pub earlier : Schedule
  pub passed : List Interval
  pub window : Interval
  pub others : List Interval
  pub later : Schedule
  pub are : s ≡ earlier ++ ((passed ++ (window ∷ others)) ∷ later)
  pub earlier_in_order : All (λ ws. All IntervalIn ws × Ordered 0 ws) earlier
  pub passed_in_order : All IntervalIn passed × Ordered 0 passed
  pub at_fault : AtFault (end_after 0 passed) window number

refused-same : {m n : ℕ} → refused m ≡ refused n → m ≡ n
refused-same e = cc

-- of one template, from some end on
record OwnFault (least : ℕ) (ws : List Interval) (number : ℕ) : Type 0 where
  passed : List Interval
  window : Interval
  others : List Interval
  are : ws ≡ passed ++ (window ∷ others)
  in_order : All IntervalIn passed × Ordered least passed
  at_fault : AtFault (end_after least passed) window number

fault-tested : (least : ℕ) (ws : List Interval) (go : Reading) (n : ℕ) → OwnFault least ws n → tested least ws go ≡ refused n
unfolding tested All Ordered end_after
fault-tested least ws go n f = ap (λ z. tested least z go) f.are ∙ from least f.passed f.in_order.0 f.in_order.1 f.at_fault
  where
    here : (e : ℕ) → AtFault e f.window n → pick (in_week f.window) (pick (leb e f.window.start) (tested f.window.end f.others go) (refused 45)) (refused 44) ≡ refused n
    here e (out_of_the_week is b) = by_test (in_week f.window) (λ t. absurd (b (interval_in f.window t))) (λ t. rw (t, is))
    here e (too_early is ok l) = rw (in_interval f.window ok, lt-leb e f.window.start l, is)

    from : (e : ℕ) (xs : List Interval) → All IntervalIn xs → Ordered e xs → AtFault (end_after e xs) f.window n → tested e (xs ++ (f.window ∷ f.others)) go ≡ refused n
    from e [] a o t = here e t
    from e (x ∷ xs) a o t = rw (in_interval x a.0, le-leb e x.start o.0) (from x.end xs a.1 o.1 t)

-- either all are in order, or there is a first at fault
own_cases : (P : Type 0) (least : ℕ) (ws : List Interval) → (All IntervalIn ws × Ordered least ws → P) → ((n : ℕ) → OwnFault least ws n → P) → P
unfolding All Ordered end_after
own_cases P least [] kept broken = kept (tt, tt)
own_cases P least (w ∷ ws) kept broken = by_test (in_week w)
    (λ t. by_test (leb least w.start)
    (λ u. own_cases P w.end ws
    (λ k. kept ((interval_in w t, k.0), (leb-true least w.start u, k.1)))
    (λ n f. broken n (record {
      passed = w ∷ f.passed;
      window = f.window;
      others = f.others;
      are = ap (λ z. w ∷ z) f.are;
      in_order = ((interval_in w t, f.in_order.0), (leb-true least w.start u, f.in_order.1));
      at_fault = f.at_fault;
    })))
    (λ u. broken 45 (record { passed = []; window = w; others = ws; are = refl; in_order = (tt, tt); at_fault = too_early refl (interval_in w t) (leb-false least w.start u) })))
    (λ t. broken 44 (record { passed = []; window = w; others = ws; are = refl; in_order = (tt, tt); at_fault = out_of_the_week refl (λ ok. never (sym t ∙ in_interval w ok)) }))

pub fault-read : (s : Schedule) (go : Reading) (n : ℕ) → FirstFault s n → all_tested s go ≡ refused n
unfolding all_tested All
fault-read s go n f = ap (λ z. all_tested z go) f.are ∙ from f.earlier f.earlier_in_order
  where
    own : OwnFault 0 (f.passed ++ (f.window ∷ f.others)) n
    own = record { passed = f.passed; window = f.window; others = f.others; are = refl; in_order = f.passed_in_order; at_fault = f.at_fault }

    from : (e : Schedule) → All (λ ws. All IntervalIn ws × Ordered 0 ws) e → all_tested (e ++ ((f.passed ++ (f.window ∷ f.others)) ∷ f.later)) go ≡ refused n
    from [] a = fault-tested 0 (f.passed ++ (f.window ∷ f.others)) (all_tested f.later go) n own
    from (ws ∷ e) a = tested_goes 0 ws (all_tested (e ++ ((f.passed ++ (f.window ∷ f.others)) ∷ f.later)) go) a.0.0 a.0.1 ∙ from e a.1

pub read-fault : (s : Schedule) (go : Reading) (n : ℕ) → ((m : ℕ) → go ≡ refused m → ⊥) → all_tested s go ≡ refused n → FirstFault s n
unfolding all_tested All
read-fault [] go n none e = absurd (none n e)
read-fault (ws ∷ s) go n none e = own_cases (FirstFault (ws ∷ s) n) 0 ws
    (λ k.
    let f = read-fault s go n none (sym (tested_goes 0 ws (all_tested s go) k.0 k.1) ∙ e) in
    record {
      earlier = ws ∷ f.earlier;
      passed = f.passed;
      window = f.window;
      others = f.others;
      later = f.later;
      are = ap (λ z. ws ∷ z) f.are;
      earlier_in_order = (k, f.earlier_in_order);
      passed_in_order = f.passed_in_order;
      at_fault = f.at_fault;
    })
    (λ m f.
    let is : m ≡ n = refused-same (sym (fault-tested 0 ws (all_tested s go) m f) ∙ e) in
    subst (FirstFault (ws ∷ s)) is
    (record {
      earlier = [];
      passed = f.passed;
      window = f.window;
      others = f.others;
      later = s;
      are = ap (λ z. z ∷ s) f.are;
      earlier_in_order = tt;
      passed_in_order = f.in_order;
      at_fault = f.at_fault;
    }))
