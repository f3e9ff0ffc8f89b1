-- `lengths::least` meets its contract: below the least total nothing succeeds, and of those of that total the first is taken. Assumes nothing.
use mathlib.Core.Path.{sym, ◌∙◌}
use mathlib.Core.Bool.{true}
use native.Mathlib.Omega.{arith}
use Rattle.std.specs.Prelude.{IsSome, IsNone}
use Rattle.model.proofs.Lists.{never}
use Rattle.trails.specs.Equations.{equations}
use Rattle.boxes.specs.Vectors.{Sooner, try_of}
use Rattle.lengths.proofs.Laws.{all-missed, short-total, shortest_first}
use Rattle.lengths.proofs.least.Goals as goal

pub returns-in_err-found : goal.returns-in_err-found
returns-in_err-found c =
    let r = c.args.ranges in
    let p = c.args.p.now in
    let none : IsNone c.seek-best.result.found = rw c.in_err-found.was in
    rw (c.from_residual.ensures ∙ sym c.in_err-found.was)
    (all-missed (try_of (equations p.x.now p.w.now) p.rows.now p.count) r.lo r.hi c.beyond.result c.beyond.ensures.0 true c.seek-best.result c.seek-best.ensures Sooner none)

pub settle-requires : goal.settle-requires
settle-requires c =
    let r = c.args.ranges in
    let p = c.args.p.now in
    let some : IsSome c.seek-best.result.found = rw c.in_ok-found.was in (
      c.requires.0,
      c.requires.1,
      short-total (try_of (equations p.x.now p.w.now) p.rows.now p.count) r.lo r.hi c.beyond.result c.seek-best.result c.seek-best.ensures some c.beyond.ensures.1,
      omega arith,
      (λ f l. absurd (omega arith)),
      λ e. never (sym e),
    )

pub returns : goal.returns
returns c =
    let r = c.args.ranges in
    let p = c.args.p.now in
    let some : IsSome c.seek-best.result.found = rw c.in_ok-found.was in
    shortest_first (try_of (equations p.x.now p.w.now) p.rows.now p.count) r.lo r.hi c.beyond.result c.seek-best.result c.seek-best.ensures some c.settle.result c.settle.ensures
