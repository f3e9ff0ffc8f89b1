-- `numbering::place_number` meets its contract. Assumes nothing.
use mathlib.Core.Path.{◌≡◌, ap}
use Prim.Native.Nat.{suc, ◌+◌, ◌*◌, ◌≤◌}
use native.Mathlib.Nat.{mul-le-mul}
use native.Mathlib.Omega.{arith}
use Rattle.model.specs.Sheet.{sheet_of}
use Rattle.formula.specs.Clause.{K, blank}
use Rattle.formula.specs.Numbering.{number}
use Rattle.formula.proofs.Numbering.{number_small}
use Rattle.formula.proofs.Small.{letters-few, limit-small, variables-small}
use Rattle.numbering.proofs.place_number.Goals as goal
use Rattle.numbering.proofs.place_number.Lts as lts
use Rattle.numbering.proofs.place_number.Reads as reads
use Rattle.numbering.proofs.place_number.Tie as tie

pub overflow_add-result : goal.overflow_add-result
overflow_add-result c = omega (arith, c.parts_before.ensures.1)

product : (c : lts.After-letters tie.the-claims reads.Pre reads.Post) → c.args.c * (c.letters.result + 1) ≤ 72
product c =
    let s = sheet_of c.args.sheet.now in
    let n : c.letters.result + 1 ≤ 9 = omega (arith, c.letters.ensures, letters-few s c.requires.0.1) in
    let m : c.args.c ≤ 8 = omega (arith, c.requires.1.0.1, limit-small s c.requires.0.1 c.args.f) in
    let k : c.args.c * (c.letters.result + 1) ≤ 8 * 9 = mul-le-mul m n in
    omega arith

pub overflow_mul-result : goal.overflow_mul-result
overflow_mul-result c = omega (arith, product c.before)

pub overflow_add-result-3 : goal.overflow_add-result-3
overflow_add-result-3 c = omega (arith, product c.before, c.parts_before.ensures.1)

pub overflow_add-result-4 : goal.overflow_add-result-4
overflow_add-result-4 c =
    omega (arith, product c.before, c.parts_before.ensures.1, c.requires.1.1, letters-few (sheet_of c.args.sheet.now) c.requires.0.1)

pub returns : goal.returns
unfolding number
returns c =
    let s = sheet_of c.args.sheet.now in
    let a = c.args in
    let n : c.letters.result + 1 ≡ suc (blank s) = omega (arith, c.letters.ensures) in
    let m : a.c * (c.letters.result + 1) ≡ a.c * suc (blank s) = ap (λ k. a.c * k) n in
    let small = number_small s (K a.f a.c a.a) c.requires.1 in
    (omega (arith, c.parts_before.ensures.0), omega (arith, c.parts_before.ensures.0, variables-small s c.requires.0.1))
