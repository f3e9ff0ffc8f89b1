-- `walk::skip` meets its contract: every cell passed so far is blank. Assumes nothing.
use native.Mathlib.Omega.{arith}
use Rattle.walk.proofs.Laws.{blank-more}
use Rattle.walk.proofs.skip.Goals as goal

pub returns-then-value : goal.returns-then-value
returns-then-value c = record { past = omega arith; within = omega arith; blank = c.loop-i.invariant; solid = λ h e. omega arith }

pub loop-i-preserved : goal.loop-i-preserved
loop-i-preserved c = blank-more _ _ _ c.loop-i.invariant (omega arith)
