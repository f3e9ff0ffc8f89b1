-- `inequalities::side_sum` meets its contract. The loop's invariant: the number that is added, and the terms of the first f fields. Assumes nothing.
use mathlib.Core.Path.{◌≡◌, ap, ap₂, ◌∙◌}
use Prim.Native.Nat.{◌+◌}
use native.Mathlib.Omega.{arith}
use Rattle.inequalities.proofs.Steps.{side_to, side_begins, side_next, side_done}
use Rattle.inequalities.proofs.side_sum.Goals as goal

pub loop-f-init : goal.loop-f-init
loop-f-init c =
    let a = c.args in
    let fits = c.type_inv.rows (a.at + 6) in
    (c.from-sum.ensures ∙ side_begins a.rows.now a.at a.n, omega arith)

pub loop-f-preserved : goal.loop-f-preserved
loop-f-preserved c =
    let a = c.args in
    let l = c.loop-f in
    (ap₂ ◌+◌ l.invariant.0 c.term-sum.ensures.0 ∙ side_next a.rows.now a.at a.n l.f, omega (arith, c.term-sum.ensures.1))

pub returns : goal.returns
returns c =
    let a = c.args in
    let l = c.loop-f in
    let e : l.f ≡ 6 = omega arith in
    l.invariant.0 ∙ ap (side_to a.rows.now a.at a.n) e ∙ side_done a.rows.now a.at a.n
