-- `numbering::location_number` meets its contract. Assumes nothing.
use mathlib.Core.Path.{◌≡◌, ap}
use Prim.Native.Nat.{suc, ◌+◌, ◌*◌, ◌≤◌}
use native.Mathlib.Nat.{mul-le-mul}
use native.Mathlib.Omega.{arith}
use lib.ListN.{length}
use Rattle.model.specs.Sheet.{sheet_of}
use Rattle.formula.specs.Clause.{S, right_cells}
use Rattle.formula.specs.Numbering.{number}
use Rattle.formula.proofs.Numbering.{number_small}
use Rattle.formula.proofs.Small.{cells-small, variables-small}
use Rattle.numbering.proofs.location_number.Goals as goal
use Rattle.numbering.proofs.location_number.Lts as lts
use Rattle.numbering.proofs.location_number.Reads as reads
use Rattle.numbering.proofs.location_number.Tie as tie

pub overflow_add-result : goal.overflow_add-result
overflow_add-result c = omega (arith, c.whole.ensures.1)

product : (c : lts.After-width tie.the-claims reads.Pre reads.Post) → c.args.i * (c.width.result + 1) ≤ 600
product c =
    let s = sheet_of c.args.sheet.now in
    let n : c.width.result + 1 ≤ 25 = omega (arith, c.width.ensures.1) in
    let m : c.args.i ≤ 24 = omega (arith, c.requires.1.1, (cells-small s c.requires.0.1 c.args.p c.requires.1.0).0) in
    let k : c.args.i * (c.width.result + 1) ≤ 24 * 25 = mul-le-mul m n in
    omega arith

pub overflow_mul-result : goal.overflow_mul-result
overflow_mul-result c = omega (arith, product c.before)

pub overflow_add-result-4 : goal.overflow_add-result-4
overflow_add-result-4 c =
    let at-whole = c.whole in
    omega (arith, product c.before, at-whole.ensures.1, c.parts_before.ensures.1)

pub overflow_add-result-5 : goal.overflow_add-result-5
overflow_add-result-5 c =
    let at-whole = c.whole in
    let s = sheet_of c.args.sheet.now in
    omega (arith, product c.before, at-whole.ensures.1, c.parts_before.ensures.1, c.requires.1.2, (cells-small s c.requires.0.1 c.args.p c.requires.1.0).1)

pub returns : goal.returns
unfolding number
returns c =
    let at-whole = c.whole in
    let s = sheet_of c.args.sheet.now in
    let a = c.args in
    let n : c.width.result + 1 ≡ suc (length (right_cells s a.p)) = omega (arith, c.width.ensures.0) in
    let m : a.i * (c.width.result + 1) ≡ a.i * suc (length (right_cells s a.p)) = ap (λ k. a.i * k) n in
    let small = number_small s (S a.p a.i a.j) c.requires.1 in
    (omega (arith, at-whole.ensures.0, c.parts_before.ensures.0), omega (arith, at-whole.ensures.0, c.parts_before.ensures.0, variables-small s c.requires.0.1))
