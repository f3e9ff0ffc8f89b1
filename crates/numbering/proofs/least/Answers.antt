-- `numbering::least` meets its contract. The loop's invariant: the least sum of the first f fields, in its bits. Assumes nothing.
use mathlib.Core.Path.{◌≡◌, refl, sym, ap, ◌∙◌}
use Prim.Native.Nat.{◌+◌, ◌≤◌}
use native.Mathlib.Omega.{arith}
use lib.IntN.{nat_abs, ◌+ℤ◌}
use mir.Syntax.{w8, w16}
use mir.Val.{to_z, of_z}
use Rattle.model.specs.Sheet.{sheet_of, constraint, coefficient, limit}
use Rattle.formula.specs.Clause.{least, lowest}
use Rattle.formula.proofs.Integers.{least_more}
use Rattle.formula.proofs.Small.{fields-few, coefficient_few, least-small, lowest-small, limit-small}
use Rattle.scan.proofs.Machine.{small-fits, small_back}
use Rattle.numbering.proofs.least.Goals as goal
use Rattle.numbering.proofs.least.Lts as lts
use Rattle.numbering.proofs.least.Reads as reads
use Rattle.numbering.proofs.least.Tie as tie

pub loop-f-init : goal.loop-f-init
unfolding least
loop-f-init c = refl

small : (c : lts.After-coefficient tie.the-claims reads.Pre reads.Post goal.the-invariant-loop-f goal.the-decreases-loop-f) → nat_abs c.coefficient.result ≤ 4
small c =
    let at-loop = c.loop-f in
    let s = sheet_of c.args.sheet.now in
    rw c.coefficient.ensures (coefficient_few s c.requires.0.1 c.args.r c.requires.1 at-loop.f)

pub lowest-sum-requires : goal.lowest-sum-requires
lowest-sum-requires c = (rw (small_back w8 c.coefficient.result (omega (arith, small c.before.before))) (small c.before.before), c.limit.ensures.1)

-- the next sum, as the machine has it
next : (c : lts.After-lowest tie.the-claims reads.Pre reads.Post goal.the-invariant-loop-f goal.the-decreases-loop-f) →
    let at-loop = c.loop-f in
    let at-start = c.before.before.before.before.before.before in
    to_z w16 at-loop.sum-bits +ℤ to_z w16 (of_z w16 c.lowest-sum.result) ≡ least (sheet_of at-start.args.sheet.now) (constraint (sheet_of at-start.args.sheet.now) at-start.args.r) (at-loop.f + 1)
next c =
    let at-start = c.before.before.before.before.before.before in
    let at-loop = c.loop-f in
    let at-coefficient = c.coefficient in
    let place-coefficient = c.before.before in
    let s = sheet_of at-start.args.sheet.now in
    let r = constraint s at-start.args.r in
    let l = at-loop in
    let few = fields-few s at-start.requires.0.1 in
    let before = least-small s at-start.requires.0.1 at-start.args.r at-start.requires.1 l.f in
    let back = small_back w8 at-coefficient.result (omega (arith, small place-coefficient)) in
    let is = c.lowest-sum.ensures ∙ ap (λ z. lowest z c.limit.result) (back ∙ at-coefficient.ensures) ∙ ap (lowest (coefficient r l.f)) c.limit.ensures.0 in
    let term = lowest-small (coefficient r l.f) (limit s l.f) (coefficient_few s at-start.requires.0.1 at-start.args.r at-start.requires.1 l.f) (limit-small s at-start.requires.0.1 l.f) in
    let sum = l.invariant in
    rw (sum, is, small_back w16 (lowest (coefficient r l.f) (limit s l.f)) (omega arith)) (sym (least_more s r l.f))

pub overflow_add-sum : goal.overflow_add-sum
overflow_add-sum c =
    let at-loop = c.loop-f in
    let s = sheet_of c.args.sheet.now in
    let k = at-loop.f + 1 in
    rw (next c.before) (small-fits w16 (least s (constraint s c.args.r) k) (omega (arith, least-small s c.requires.0.1 c.args.r c.requires.1 k, fields-few s c.requires.0.1, c.requires.2)))

pub loop-f-preserved : goal.loop-f-preserved
loop-f-preserved c =
    let s = sheet_of c.args.sheet.now in
    let k = c.loop-f.f + 1 in
    rw (next c.before) (small_back w16 (least s (constraint s c.args.r) k) (omega (arith, least-small s c.requires.0.1 c.args.r c.requires.1 k, fields-few s c.requires.0.1, c.requires.2)))
