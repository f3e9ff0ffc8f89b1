-- `boxes::seek` meets its contract: nothing is known at the start. Assumes nothing.
use mathlib.Core.Path.{sym, subst}
use native.Mathlib.Omega.{arith}
use Rattle.trails.specs.Equations.{equations}
use Rattle.trails.specs.Board.{Watches}
use Rattle.trails.proofs.Boards.{open_watches}
use Rattle.boxes.specs.Vectors.{try_of}
use Rattle.boxes.proofs.Laws.{few-equations, begun}
use Rattle.boxes.proofs.seek.Goals as goal

pub in_box-requires : goal.in_box-requires
in_box-requires c =
    let a = c.args in
    let p = a.p.now in
    let few = p.given.few in
    let one = few-equations p.x.now p.w.now in
    let two = few-equations p.y.now p.w.now in (
      c.requires.0,
      c.requires.1,
      subst (Watches (equations p.x.now p.w.now) (equations p.y.now p.w.now) a.ranges.lo a.ranges.hi) (sym c.open_board-board.ensures)
          (open_watches (equations p.x.now p.w.now) (equations p.y.now p.w.now) a.ranges.lo a.ranges.hi (omega arith) (omega arith)),
    )

pub returns : goal.returns
returns c =
    let a = c.args in
    let p = a.p.now in
    begun (try_of (equations p.x.now p.w.now) p.rows.now p.count) a.ranges.lo a.ranges.hi a.t a.u a.shortest c.in_box.result.best c.in_box.ensures
