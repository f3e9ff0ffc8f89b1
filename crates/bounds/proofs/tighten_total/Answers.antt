-- `bounds::tighten_total` meets its contract. Assumes nothing.
use mathlib.Core.Path.{subst}
use Rattle.bounds.specs.Bounds.{ClosedBoth, Tightened}
use Rattle.bounds.proofs.tighten_total.Goals as goal

pub returns : goal.returns
returns c =
    let a = c.args in
    subst (λ xs. Tightened (ClosedBoth xs 2 a.rows.now a.count) a.ranges.lo a.ranges.hi c.tighten.result) c.total_rows-totals.ensures c.tighten.ensures
