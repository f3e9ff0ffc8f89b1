-- `walk::walk_on` meets its contract: past the blanks of both sides it answers as `walk_in` does there, and goes on past a cell of each side. What falls from
-- call to call is document 01's: the cells left in both sides plus the undecided places. Assumes nothing.
use mathlib.Core.Path.{sym, ◌∙◌}
use Prim.Native.Nat.{◌≤◌}
use native.Mathlib.Omega.{arith}
use Rattle.unification.proofs.Laws.{of_ok}
use Rattle.walk.specs.Walk.{undecided}
use Rattle.walk.proofs.Laws.{in_range, left_end, right_end, passes, waits_there, unified, refuted, fewer_undecided}
use Rattle.walk.proofs.+walk_on.Goals as goal

pub returns-then-may_end : goal.returns-then-may_end
returns-then-may_end t c =
    (rw (sym c.may_end.ensures ∙ c.if-may_end.true) at (left_end c.skip-left.ensures c.skip-right.ensures c.if-left-a.true))

pub returns-else-may_end : goal.returns-else-may_end
returns-else-may_end t c =
    (rw (sym c.may_end.ensures ∙ c.if-may_end.false) at (left_end c.skip-left.ensures c.skip-right.ensures c.if-left-a.true))

pub returns-then-may_end-2 : goal.returns-then-may_end-2
returns-then-may_end-2 t c =
    (rw (sym c.may_end-then-right-b.ensures ∙ c.if-may_end-2.true) at (right_end c.skip-left.ensures c.skip-right.ensures c.if-left-a.false c.if-right-b.true))

pub returns-else-may_end-2 : goal.returns-else-may_end-2
returns-else-may_end-2 t c =
    (rw (sym c.may_end-then-right-b.ensures ∙ c.if-may_end-2.false) at (right_end c.skip-left.ensures c.skip-right.ensures c.if-left-a.false c.if-right-b.true))

pub returns-then-alike : goal.returns-then-alike
returns-then-alike t c =
    c.walk_on.ensures
    ∙ passes c.skip-left.ensures c.skip-right.ensures c.if-left-a.false c.if-right-b.false c.value-u.ensures c.value-v.ensures (sym c.alike.ensures ∙ c.if-alike.true)

pub returns-then-waits : goal.returns-then-waits
returns-then-waits t c =
    waits_there c.skip-left.ensures c.skip-right.ensures c.if-left-a.false c.if-right-b.false c.value-u.ensures c.value-v.ensures (sym c.alike.ensures ∙ c.if-alike.false) (sym c.waits.ensures ∙ c.if-waits.true)

pub returns-in_default : goal.returns-in_default
returns-in_default t c =
    refuted c.skip-left.ensures c.skip-right.ensures c.if-left-a.false c.if-right-b.false c.value-u.ensures c.value-v.ensures (sym c.alike.ensures ∙ c.if-alike.false) (sym c.waits.ensures ∙ c.if-waits.false)
    (λ h e. c.in_default.not-Ok h (c.unify.ensures ∙ e))

-- what the walk asks of its call past these cells: fewer are left, and the locations are within the sides
pub walk_on-requires-2 : goal.walk_on-requires-2
walk_on-requires-2 t c =
    let left = in_range c.skip-left.ensures c.if-left-a.false in
    let right = in_range c.skip-right.ensures c.if-right-b.false in
    let from = c.skip-left.ensures.past in
    let to = c.skip-right.ensures.past in
    let joined = sym c.unify.ensures ∙ c.in-Ok.is in
    let fewer = of_ok (λ h. undecided h ≤ undecided c.args.g) _ (fewer_undecided c.skip-left.ensures c.skip-right.ensures c.if-left-a.false c.if-right-b.false c.value-u.ensures c.value-v.ensures) c.in-Ok.h joined in
    (omega arith, (c.requires.0, c.requires.1, omega arith, omega arith))

pub returns : goal.returns
returns t c =
    c.walk_on-2.ensures
    ∙ unified c.skip-left.ensures c.skip-right.ensures c.if-left-a.false c.if-right-b.false c.value-u.ensures c.value-v.ensures (sym c.alike.ensures ∙ c.if-alike.false) (sym c.waits.ensures ∙ c.if-waits.false)
    c.in-Ok.h (sym c.unify.ensures ∙ c.in-Ok.is)
