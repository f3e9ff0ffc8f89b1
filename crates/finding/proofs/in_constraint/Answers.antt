-- `finding::in_constraint` meets its contract. The loop's invariant: rest is the number among the clauses of the steps from field k on. Assumes nothing.
use mathlib.Core.Path.{subst}
use Prim.Native.Nat.{◌-◌, ◌<◌}
use native.Mathlib.Omega.{arith}
use Rattle.model.specs.Sheet.{sheet_of}
use Rattle.formula.specs.Count.{step_count}
use Rattle.locating.proofs.Laws.{at_first, at_next}
use Rattle.finding.proofs.Laws.{zero_found, sum_below, add_found, bound_below, bound_small, bound_found}
use Rattle.finding.proofs.in_constraint.Goals as goal

pub returns-then-n-eq0 : goal.returns-then-n-eq0
returns-then-n-eq0 c =
    let s = sheet_of c.args.sheet.now in
    zero_found s c.requires.0.1 c.args.r c.requires.1 c.args.n c.if-n-eq0.true

pub loop-k-init : goal.loop-k-init
loop-k-init c =
    let s = sheet_of c.args.sheet.now in
    at_first (step_count s c.args.r) (c.args.n - 1)

pub sum_at-requires : goal.sum_at-requires
sum_at-requires c =
    let at_fields = c.fields-fields in
    let at-if1 = c.if-n-eq0 in
    let at-loop = c.loop-k in
    let at-step-count = c.step_count-size in
    let s = sheet_of c.args.sheet.now in
    (c.requires.0, c.requires.1, omega (arith, at_fields.ensures), sum_below s c.requires.0.1 c.args.r c.requires.1 c.args.n at-if1.false at-loop.k at-loop.rest at-loop.invariant (omega (arith, at_fields.ensures)) (subst (λ n. at-loop.rest < n) at-step-count.ensures.0 c.if-rest-size.true) c.limit-lengths.result c.limit-lengths.ensures.0)

pub returns-then-rest-size : goal.returns-then-rest-size
returns-then-rest-size c =
    let at-if1 = c.if-n-eq0 in
    let at-loop = c.loop-k in
    let at_fields = c.fields-fields in
    let at-step-count = c.step_count-size in
    let at-if2 = c.if-rest-size in
    let s = sheet_of c.args.sheet.now in
    add_found s c.requires.0.1 c.args.r c.requires.1 c.args.n at-if1.false at-loop.k at-loop.rest at-loop.invariant (omega (arith, at_fields.ensures)) (subst (λ n. at-loop.rest < n) at-step-count.ensures.0 at-if2.true) c.limit-lengths.result c.limit-lengths.ensures.0 c.sum_at.result c.sum_at.ensures

pub loop-k-preserved : goal.loop-k-preserved
loop-k-preserved c =
    let at-loop = c.loop-k in
    let s = sheet_of c.args.sheet.now in
    at_next (step_count s c.args.r) (c.args.n - 1) at-loop.k at-loop.rest c.step_count-size.result at-loop.invariant c.step_count-size.ensures.0 c.if-rest-size.false

pub overflow_add-within : goal.overflow_add-within
overflow_add-within c =
    let at-if1 = c.if-n-eq0 in
    let at-loop = c.loop-k in
    let at_fields = c.fields-fields in
    let s = sheet_of c.args.sheet.now in
    omega (arith, bound_small s c.requires.0.1 c.args.r c.requires.1 c.args.n at-if1.false at-loop.k at-loop.rest at-loop.invariant (omega (arith, at-loop.invariant, at_fields.ensures)) at_fields.result at_fields.ensures c.requires.2 c.within.result c.within.ensures.0)

pub sum_at-requires-2 : goal.sum_at-requires-2
sum_at-requires-2 c =
    let at_fields = c.fields-fields in
    let at-if1 = c.if-n-eq0 in
    let at-loop = c.loop-k in
    let s = sheet_of c.args.sheet.now in
    (c.requires.0, c.requires.1, omega (arith, at_fields.ensures), bound_below s c.requires.0.1 c.args.r c.requires.1 c.args.n at-if1.false at-loop.k at-loop.rest at-loop.invariant (omega (arith, at-loop.invariant, at_fields.ensures)) at_fields.result at_fields.ensures c.requires.2 c.within.result c.within.ensures.0)

pub returns : goal.returns
returns c =
    let at-if1 = c.if-n-eq0 in
    let at-loop = c.loop-k in
    let at_fields = c.fields-fields in
    let s = sheet_of c.args.sheet.now in
    bound_found s c.requires.0.1 c.args.r c.requires.1 c.args.n at-if1.false at-loop.k at-loop.rest at-loop.invariant (omega (arith, at-loop.invariant, at_fields.ensures)) at_fields.result at_fields.ensures c.requires.2 c.within.result c.within.ensures.0 c.sum_at-2.result c.sum_at-2.ensures
