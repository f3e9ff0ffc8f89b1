-- `literals::some_value` meets its contract. Assumes nothing.
use mathlib.Core.Path.{◌≡◌, refl, ◌∙◌}
use mathlib.Core.List.{map}
use Prim.Native.Nat.{suc, ◌+◌, ◌*◌, ◌≤◌}
use native.Mathlib.Omega.{arith}
use lib.ListN.{replicate, length-map}
use Rattle.model.specs.Lists.{up_to, from}
use Rattle.model.specs.Sheet.{sheet_of}
use Rattle.formula.specs.Clause.{blank}
use Rattle.formula.proofs.Small.{letters-few}
use Rattle.model.proofs.Keeping.{map_next, length_from}
use Rattle.model.proofs.Seams.{store_next}
use Rattle.literals.proofs.Laws.{some-nine}
use Rattle.literals.proofs.some_value.Goals as goal
use Rattle.literals.proofs.some_value.Lts as lts
use Rattle.literals.proofs.some_value.Reads as reads
use Rattle.literals.proofs.some_value.Tie as tie

pub loop-a-init : goal.loop-a-init
unfolding from
loop-a-init c = refl

few : (c : lts.In-loop tie.the-claims reads.Pre reads.Post goal.the-invariant-loop-a goal.the-decreases-loop-a) → c.loop-a.a ≤ 8
few c =
    let at-letters = c.letters-letters in
    let s = sheet_of c.args.sheet.now in
    omega (arith, at-letters.ensures, letters-few s c.requires.0.1)

pub loop-a-preserved : goal.loop-a-preserved
loop-a-preserved c =
    let at-place-number = c.place_number-first in
    let first = at-place-number.result in
    let a = c.loop-a.a in
    let p = map (λ k. 2 * (first + k)) (up_to a) in
    let n = length-map (up_to a) (λ k. 2 * (first + k)) ∙ length_from 0 a in
    rw (c.loop-a.invariant, map_next (λ k. 2 * (first + k)) a) (store_next p (replicate 9 0) a (2 * (first + a)) n (omega (arith, few c.before)))

pub returns : goal.returns
returns c =
    let at-letters = c.letters-letters in
    let at-place-number = c.place_number-first in
    let s = sheet_of c.args.sheet.now in
    let n : c.loop-a.a ≡ suc (blank s) = omega (arith, at-letters.ensures) in
    c.loop-a.invariant ∙ some-nine s c.args.f c.args.c at-place-number.result c.loop-a.a at-place-number.ensures.0 n (omega (arith, letters-few s c.requires.0.1))
