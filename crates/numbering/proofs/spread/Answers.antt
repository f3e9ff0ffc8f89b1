-- `numbering::spread` meets its contract. The loop's invariant: the spread of the first f fields. Assumes nothing.
use mathlib.Core.Path.{◌≡◌, refl, sym, ap, ◌∙◌}
use Prim.Native.Nat.{◌*◌, ◌≤◌}
use native.Mathlib.Nat.{mul-le-mul}
use native.Mathlib.Omega.{arith}
use lib.IntN.{nat_abs}
use mir.Syntax.{w8}
use Rattle.model.specs.Sheet.{sheet_of, constraint, coefficient, limit}
use Rattle.formula.specs.Clause.{spread}
use Rattle.formula.proofs.Integers.{spread-more}
use Rattle.formula.proofs.Small.{fields-few, coefficient_few, spread-small, limit-small}
use Rattle.scan.proofs.Machine.{small_back}
use Rattle.numbering.proofs.spread.Goals as goal
use Rattle.numbering.proofs.spread.Lts as lts
use Rattle.numbering.proofs.spread.Reads as reads
use Rattle.numbering.proofs.spread.Tie as tie

pub loop-f-init : goal.loop-f-init
unfolding spread
loop-f-init c = refl

small : (c : lts.After-coefficient tie.the-claims reads.Pre reads.Post goal.the-invariant-loop-f goal.the-decreases-loop-f) → nat_abs c.coefficient.result ≤ 4
small c =
    let at-loop = c.loop-f in
    let s = sheet_of c.args.sheet.now in
    rw c.coefficient.ensures (coefficient_few s c.requires.0.1 c.args.r c.requires.1 at-loop.f)

pub magnitude-requires : goal.magnitude-requires
magnitude-requires c = rw (small_back w8 c.coefficient.result (omega (arith, small c.before))) (small c.before)

-- the product that is added
term : (c : lts.After-limit tie.the-claims reads.Pre reads.Post goal.the-invariant-loop-f goal.the-decreases-loop-f) →
    let at-start = c.before.before.before.before.before.before in
    let at-loop = c.loop-f in
    (c.magnitude.result * c.limit.result ≤ 32) × (c.magnitude.result * c.limit.result ≡ nat_abs (coefficient (constraint (sheet_of at-start.args.sheet.now) at-start.args.r) at-loop.f) * limit (sheet_of at-start.args.sheet.now) at-loop.f)
term c =
    let at-start = c.before.before.before.before.before.before in
    let at-coefficient = c.coefficient in
    let place-coefficient = c.before.before in
    let at-loop = c.loop-f in
    let s = sheet_of at-start.args.sheet.now in
    let back = small_back w8 at-coefficient.result (omega (arith, small place-coefficient)) in
    let is = c.magnitude.ensures ∙ ap nat_abs (back ∙ at-coefficient.ensures) in
    let e : nat_abs (coefficient (constraint s at-start.args.r) at-loop.f) * limit s at-loop.f ≤ 4 * 8 = mul-le-mul (coefficient_few s at-start.requires.0.1 at-start.args.r at-start.requires.1 at-loop.f) (limit-small s at-start.requires.0.1 at-loop.f) in
    rw (is, c.limit.ensures.0) (omega arith, refl)

pub overflow_add-sum : goal.overflow_add-sum
overflow_add-sum c =
    let at-loop = c.loop-f in
    let s = sheet_of c.args.sheet.now in
    omega (arith, term c.before, at-loop.invariant, spread-small s c.requires.0.1 c.args.r c.requires.1 at-loop.f, fields-few s c.requires.0.1, c.requires.2)

pub loop-f-preserved : goal.loop-f-preserved
loop-f-preserved c =
    let at-loop = c.loop-f in
    let s = sheet_of c.args.sheet.now in
    rw (at-loop.invariant, (term c.before).1) (sym (spread-more s (constraint s c.args.r) at-loop.f))

pub returns : goal.returns
returns c =
    let s = sheet_of c.args.sheet.now in
    let l = c.loop-f in
    let e : l.f ≡ c.args.k = omega arith in
    let n = spread-small s c.requires.0.1 c.args.r c.requires.1 l.f in
    (l.invariant ∙ ap (spread s (constraint s c.args.r)) e, omega (arith, l.invariant, fields-few s c.requires.0.1, c.requires.2))
