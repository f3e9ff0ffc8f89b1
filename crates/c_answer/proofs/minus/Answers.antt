-- `c_answer::minus` meets its contract. Assumes nothing.
use native.Mathlib.Omega.{arith}
use Rattle.c_answer.proofs.Negated.{minus_read}
use Rattle.c_answer.proofs.minus.Goals as goal

pub returns : goal.returns
returns c = (minus_read c.args.number (omega arith) c.from.ensures, omega arith)
