-- `size_line::reaching` meets its contract. Assumes nothing.
use native.Mathlib.Omega.{arith}
use Rattle.size_line.proofs.Laws.{reached-is}
use Rattle.size_line.proofs.reaching.Goals as goal

pub returns : goal.returns
returns c =
    let a = c.args in
    (omega (arith, reached-is a.power a.first a.n), omega arith)
