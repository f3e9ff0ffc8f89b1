-- `size_sum::constraint_size` meets its contract. Assumes nothing.
use mathlib.Core.Path.{◌≡◌, ap}
use Prim.Native.Nat.{◌*◌}
use native.Mathlib.Omega.{arith}
use lib.IntN.{pos}
use Rattle.model.specs.Sheet.{sheet_of, constraint}
use Rattle.formula.specs.Clause.{T}
use Rattle.formula.specs.Numbering.{number}
use Rattle.formula.proofs.Integers.{sum_zero}
use Rattle.formula.proofs.Numbering.{number_small}
use Rattle.formula.proofs.Small.{variables-small}
use Rattle.dimacs.specs.Codes.{code_size}
use Rattle.size_sum.proofs.Laws.{constraint-lines}
use Rattle.size_sum.proofs.constraint_size.Goals as goal

pub sum_code-requires : goal.sum_code-requires
sum_code-requires c =
    let s = sheet_of c.args.sheet.now in
    (c.requires.0, (c.requires.1, omega arith, sum_zero s (constraint s c.args.r)))

pub literal_size-zero-requires : goal.literal_size-zero-requires
literal_size-zero-requires c =
    let s = sheet_of c.args.sheet.now in
    omega (arith, c.sum_code.ensures, number_small s (T c.args.r 0 (pos 0)) (c.requires.1, omega arith, sum_zero s (constraint s c.args.r)), variables-small s c.requires.0.1)

pub returns : goal.returns
returns c =
    let first = c.before.before.before in
    let code = first.sum_code in
    let s = sheet_of first.args.sheet.now in
    let is : code.result ≡ 2 * number s (T first.args.r 0 (pos 0)) = omega (arith, code.ensures) in
    let zero = ap code_size is in (
      omega (arith, constraint-lines s first.args.r, first.literal_size-zero.ensures.0, c.steps_size.ensures.0, c.bounds_size.ensures.0),
      omega (arith, first.literal_size-zero.ensures.1, c.steps_size.ensures.1, c.bounds_size.ensures.1),
    )
