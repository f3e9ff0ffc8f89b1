-- `boxes::in_box` meets its contract: a box is cut where nothing in it succeeds, is one vector, or is parted by the length of a field. What falls from call
-- to call: the sum of the ranges. Assumes nothing.
use native.Mathlib.Omega.{arith}
use Rattle.trails.specs.Equations.{equations}
use Rattle.bounds.proofs.Sums.{sum_grows}
use Rattle.trails.proofs.Boards.{smaller_watches}
use Rattle.boxes.proofs.Parts.{Parting, least-ranges, others-ranges, least-within, others-within, least_falls, others_falls}
use Rattle.boxes.proofs.Laws.{inner, at_one, parted}
use Rattle.boxes.proofs.+in_box.Goals as goal

pub returns-in_default : goal.returns-in_default
returns-in_default t c =
    let a = c.args in
    let p = a.p.now in
    at_one (equations p.x.now p.w.now) (equations p.y.now p.w.now) p.rows.now p.count a.ranges.lo a.ranges.hi a.t a.best a.shortest (omega arith) c.in-Ok.left c.in-Ok.ensures
    c.in_default.ensures c.at_vector.result c.at_vector.ensures

pub in_box-first-requires : goal.in_box-first-requires
in_box-first-requires t c =
    let a = c.args in
    let es = equations a.p.now.x.now a.p.now.w.now in
    let back = equations a.p.now.y.now a.p.now.w.now in
    let low = c.in-Ok.left.ranges.lo in
    let high = c.in-Ok.left.ranges.hi in
    let smaller = c.in-Ok.ensures in
    let p : Parting low high c.in-Some.k = record {
      inside = c.in-Some.ensures.0;
      six_lo = omega arith;
      six_hi = omega arith;
      ranges = smaller.closed.1.some;
    } in
    let f = least_falls p c.in-Some.ensures.1 in
    let g = sum_grows a.ranges.lo low (λ f h. (smaller.inside f h).0) in
    let h = sum_grows high a.ranges.hi (λ f h. (smaller.inside f h).1) in (
      omega (arith, f.0, f.1, g, h),
      (least-ranges p, (λ n i. c.requires.1 n (inner a.ranges.lo a.ranges.hi low high smaller.inside n (least-within p n i))), smaller_watches es back low high _ _ _ (least-within p) smaller.watches),
    )

pub in_box-requires : goal.in_box-requires
in_box-requires t c =
    let a = c.args in
    let es = equations a.p.now.x.now a.p.now.w.now in
    let back = equations a.p.now.y.now a.p.now.w.now in
    let low = c.in-Ok.left.ranges.lo in
    let high = c.in-Ok.left.ranges.hi in
    let smaller = c.in-Ok.ensures in
    let p : Parting low high c.in-Some.k = record {
      inside = c.in-Some.ensures.0;
      six_lo = omega arith;
      six_hi = omega arith;
      ranges = smaller.closed.1.some;
    } in
    let f = others_falls p c.in-Some.ensures.1 in
    let g = sum_grows a.ranges.lo low (λ f h. (smaller.inside f h).0) in
    let h = sum_grows high a.ranges.hi (λ f h. (smaller.inside f h).1) in (
      omega (arith, f.0, f.1, g, h),
      (others-ranges p c.in-Some.ensures.1, (λ n i. c.requires.1 n (inner a.ranges.lo a.ranges.hi low high smaller.inside n (others-within p n i))), smaller_watches es back low high _ _ _ (others-within p) smaller.watches),
    )

pub returns : goal.returns
returns t c =
    let a = c.args in
    let smaller = c.in-Ok.ensures in
    let p : Parting c.in-Ok.left.ranges.lo c.in-Ok.left.ranges.hi c.in-Some.k = record {
      inside = c.in-Some.ensures.0;
      six_lo = omega arith;
      six_hi = omega arith;
      ranges = smaller.closed.1.some;
    } in
    parted (equations a.p.now.x.now a.p.now.w.now) (equations a.p.now.y.now a.p.now.w.now) a.p.now.rows.now a.p.now.count a.ranges.lo a.ranges.hi a.t a.best a.shortest (omega arith) c.in-Ok.left c.in-Ok.ensures
    c.in-Some.k p c.in_box-first.result.best c.in_box.result.best c.in_box-first.ensures c.in_box.ensures
