-- `sums::longer` meets its contract. Assumes nothing.
use native.Mathlib.Omega.{arith}
use borrow.Author.Tests.{lt-ltb, le-ltb}
use Rattle.sums.proofs.longer.Goals as goal

pub returns-then-d-limit : goal.returns-then-d-limit
returns-then-d-limit c =
    simp (le-ltb c.args.d c.args.limit (omega (arith, c.if-d-limit.true)))

pub returns : goal.returns
returns c =
    simp (lt-ltb c.args.d c.args.limit (omega (arith, c.if-d-limit.false)))
