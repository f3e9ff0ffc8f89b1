-- `sums::shorter` meets its contract. Assumes nothing.
use native.Mathlib.Omega.{arith}
use borrow.Author.Tests.{lt-ltb, le-ltb}
use Rattle.sums.proofs.shorter.Goals as goal

pub returns-then-d-eq0 : goal.returns-then-d-eq0
returns-then-d-eq0 c = simp (le-ltb 0 c.args.d (omega arith))

pub returns : goal.returns
returns c = simp (lt-ltb 0 c.args.d (omega (arith, c.if-d-eq0.false)))
