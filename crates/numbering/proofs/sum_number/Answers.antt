-- `numbering::sum_number` meets its contract. Assumes nothing.
use mathlib.Core.Path.{◌≡◌, ◌∙◌}
use Prim.Native.Nat.{◌+◌, ◌≤◌}
use native.Mathlib.Omega.{arith}
use Rattle.model.specs.Sheet.{sheet_of}
use Rattle.formula.specs.Clause.{T}
use Rattle.formula.specs.Numbering.{number}
use Rattle.formula.proofs.Numbering.{number_small}
use Rattle.formula.proofs.Small.{variables-small}
use Rattle.numbering.proofs.Laws.{offset_is}
use Rattle.numbering.proofs.sum_number.Goals as goal
use Rattle.numbering.proofs.sum_number.Lts as lts
use Rattle.numbering.proofs.sum_number.Reads as reads
use Rattle.numbering.proofs.sum_number.Tie as tie

-- the number, as the machine has it
is : (c : lts.After-sums_before tie.the-claims reads.Pre reads.Post) →
    let at-whole = c.whole in
    let at-start = c.before.before.before.before.before.before.before.before in
    let at_least_lem = c.least in
    let n = 1 + at-whole.result + c.whole-2.result + c.parts_before.result + c.sums_before.result + c.from-offset.result in
    (n ≡ number (sheet_of at-start.args.sheet.now) (T at-start.args.r at-start.args.k at-start.args.s)) × (n ≤ 5648)
unfolding number
is c =
    let at-start = c.before.before.before.before.before.before.before.before in
    let at_least_lem = c.least in
    let at-whole = c.whole in
    let at-whole2 = c.whole-2 in
    let s = sheet_of at-start.args.sheet.now in
    let a = at-start.args in
    let off = offset_is s at-start.requires.0.1 at-start.args.r at-start.args.k at-start.requires.1.0 at-start.requires.1.1 at-start.args.s at-start.requires.1.2 at_least_lem.result at_least_lem.ensures in
    let e = c.from-offset.ensures ∙ c.abs_diff.ensures in
    let small = number_small s (T a.r a.k a.s) at-start.requires.1 in
    (omega (arith, at-whole.ensures.0, at-whole2.ensures.0, c.parts_before.ensures.0, c.sums_before.ensures.0), omega (arith, at-whole.ensures.0, at-whole2.ensures.0, c.parts_before.ensures.0, c.sums_before.ensures.0, variables-small s at-start.requires.0.1))

pub returns : goal.returns
returns c = ((is c.before).0, (is c.before).1)
