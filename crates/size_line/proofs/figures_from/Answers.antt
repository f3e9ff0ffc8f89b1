-- `size_line::figures_from` meets its contract. Assumes nothing.
use native.Mathlib.Omega.{arith}
use Rattle.size_line.proofs.Laws.{figures_all}
use Rattle.size_line.proofs.figures_from.Goals as goal

pub returns : goal.returns
returns c =
    let all = figures_all c.args.first c.args.n c.requires in (
      omega (arith, c.reaching-4.ensures.0, c.reaching-3.ensures.0, c.reaching-2.ensures.0, c.reaching.ensures.0),
      omega (arith, c.reaching-4.ensures.1, c.reaching-3.ensures.1, c.reaching-2.ensures.1, c.reaching.ensures.1),
    )
