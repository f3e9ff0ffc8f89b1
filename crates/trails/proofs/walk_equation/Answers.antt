-- `trails::walk_equation` meets its contract: the equation is walked from where it stands, and the new location written. Assumes nothing.
use mathlib.Core.Path.{sym, ap, subst, ◌∙◌}
use Prim.Native.Nat.{◌≤◌}
use native.Mathlib.Omega.{arith}
use lib.ListN.{length}
use Rattle.std.specs.declared.result.Result.{Result}
use Rattle.walk.specs.declared.Walked.{Walked}
use Rattle.unification.specs.Names.{either}
use Rattle.trails.specs.Trail.{moved_or}
use Rattle.walk.proofs.Right.{walk_on_within}
use Rattle.trails.proofs.Trails.{step_is}
use Rattle.trails.proofs.walk_equation.Goals as goal

pub moved-requires : goal.moved-requires
moved-requires c =
    let a = c.args in
    let at = subst (λ (z : Result Walked Walked). ((either z).left ≤ length a.a.now) × ((either z).right ≤ length a.b.now)) (sym c.walk_on.ensures ∙ c.in-Ok.is) (walk_on_within a.a.now a.b.now _ _ a.t.substitution) in
    (omega arith, omega (arith, at.0), omega (arith, at.1))

pub moved-requires-in-Err : goal.moved-requires-in-Err
moved-requires-in-Err c =
    let a = c.args in
    let at = subst (λ (z : Result Walked Walked). ((either z).left ≤ length a.a.now) × ((either z).right ≤ length a.b.now)) (sym c.walk_on.ensures ∙ c.in-Err.is) (walk_on_within a.a.now a.b.now _ _ a.t.substitution) in
    (omega arith, omega (arith, at.0), omega (arith, at.1))

pub returns-in-Ok : goal.returns-in-Ok
returns-in-Ok c =
    let a = c.args in
    rw c.moved.ensures (ap (moved_or a.q a.t.at) (sym c.in-Ok.is) ∙ step_is a.a.now a.b.now a.q a.t _ _ c.walk_on.result c.from-left.ensures c.from-right.ensures c.walk_on.ensures)

pub returns-in-Err : goal.returns-in-Err
returns-in-Err c =
    let a = c.args in
    rw c.moved-in-Err.ensures (ap (moved_or a.q a.t.at) (sym c.in-Err.is) ∙ step_is a.a.now a.b.now a.q a.t _ _ c.walk_on.result c.from-left.ensures c.from-right.ensures c.walk_on.ensures)
