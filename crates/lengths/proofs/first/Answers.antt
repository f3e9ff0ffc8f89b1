-- `lengths::first` meets its contract. Assumes nothing.
use mathlib.Core.Path.{sym, subst}
use mathlib.Core.Bool.{Bool, false}
use Rattle.trails.specs.Equations.{equations}
use Rattle.inequalities.specs.Rows.{Within}
use Rattle.boxes.specs.Vectors.{Order, First, try_of}
use Rattle.lengths.proofs.Laws.{all_found}
use Rattle.lengths.proofs.first.Goals as goal

pub returns : goal.returns
returns c =
    let a = c.args in
    let all = all_found (try_of (equations a.x.now a.w.now) a.rows.now a.count) a.ranges.lo a.ranges.hi c.beyond.result c.beyond.ensures.0 false c.seek.result c.seek.ensures in
    subst (λ (b : Bool). First (try_of (equations a.x.now a.w.now) a.rows.now a.count) (Within a.ranges.lo a.ranges.hi) (Order b) c.seek.result.found) (sym c.if-shortest.false) all
