-- `bounds::round` meets its contract. Assumes nothing.
use Rattle.bounds.proofs.Narrowing.{both_passed}
use Rattle.bounds.proofs.round.Goals as goal

pub returns : goal.returns
returns c =
    let a = c.args in
    both_passed a.sums.now a.m a.rows.now a.count _ _ _ _ c.in_ok-left.ensures c.by_rows-2.result c.by_rows-2.ensures
