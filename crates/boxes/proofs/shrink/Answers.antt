-- `boxes::shrink` meets its contract: the ranges are shortened, and then the trails are walked. Assumes nothing.
use mathlib.Core.Path.{sym, ◌∙◌}
use Rattle.trails.specs.Equations.{equations}
use Rattle.trails.proofs.Trails.{handed_on}
use Rattle.boxes.proofs.Laws.{emptied, walked, cut_off}
use Rattle.boxes.proofs.shrink.Goals as goal

pub returns-in_default : goal.returns-in_default
returns-in_default c =
    let a = c.args in
    let p = a.p.now in
    emptied (equations p.x.now p.w.now) (equations p.y.now p.w.now) p.rows.now p.count a.ranges.lo a.ranges.hi a.t a.u c.in_default.ensures

pub returns-in_err-board : goal.returns-in_err-board
returns-in_err-board c =
    let a = c.args in
    let p = a.p.now in
    rw (handed_on _ _ c.from_residual.ensures.1)
    (cut_off (equations p.x.now p.w.now) (equations p.y.now p.w.now) p.rows.now p.count a.ranges.lo a.ranges.hi a.t a.u a.b c.requires.1 c.requires.2 c.in-Some.left c.in-Some.ensures
    c.in_err-board.field-0.0 (sym c.narrow.ensures ∙ c.in_err-board.was))

pub returns : goal.returns
returns c =
    let a = c.args in
    let p = a.p.now in
    walked (equations p.x.now p.w.now) (equations p.y.now p.w.now) p.rows.now p.count a.ranges.lo a.ranges.hi a.t a.u a.b c.requires.1 c.requires.2 c.in-Some.left c.in-Some.ensures
    c.in_ok-board.board (sym c.narrow.ensures ∙ c.in_ok-board.was)
