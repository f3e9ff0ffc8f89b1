-- `size_line::problem_size` meets its contract. Assumes nothing.
use native.Mathlib.Omega.{arith}
use Rattle.formula.proofs.Lines.{problem_length}
use Rattle.size_line.proofs.problem_size.Goals as goal

pub returns : goal.returns
returns c =
    let all = problem_length c.args.variables c.args.clauses in
    (omega (arith, c.figures-2.ensures.0, c.figures.ensures.0), omega (arith, c.figures-2.ensures.1, c.figures.ensures.1))
