-- `size_line::literals_size` meets its contract. Assumes nothing.
use Prim.Native.Nat.{◌+◌, ◌%◌}
use native.Mathlib.Omega.{arith}
use Rattle.size_line.proofs.Laws.{literals-all, most}
use Rattle.size_line.proofs.literals_size.Goals as goal

pub overflow_mul-result : goal.overflow_mul-result
overflow_mul-result c = omega (arith, c.requires.1, most c.args.n (c.args.first % 2 + 1) 2 (omega arith))

pub overflow_add-result-2 : goal.overflow_add-result-2
overflow_add-result-2 c = omega (arith, c.requires.1, c.figures_from.ensures.1, most c.args.n (c.args.first % 2 + 1) 2 (omega arith))

pub returns : goal.returns
returns c =
    let all = literals-all c.args.first c.args.n c.requires.0 in
    (omega (arith, c.figures_from.ensures.0), omega (arith, c.figures_from.ensures.1, most c.args.n (c.args.first % 2 + 1) 2 (omega arith)))
