-- `choice::open_field` meets its contract. The loop's invariant: the lengths below f are settled. Assumes nothing.
use mathlib.Core.Path.{◌≡◌}
use native.Mathlib.Omega.{arith}
use Rattle.unification.proofs.Laws.{by_lt}
use Rattle.choice.proofs.open_field.Goals as goal

pub loop-f-preserved : goal.loop-f-preserved
loop-f-preserved c f l = by_lt f c.loop-f.f (c.loop-f.invariant f)
    (λ h. let e : f ≡ c.loop-f.f = omega arith in let r = c.requires c.loop-f.f (omega arith) in rw e (omega arith))

pub returns : goal.returns
returns c f l = c.loop-f.invariant f (omega arith)
