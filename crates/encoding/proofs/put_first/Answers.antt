-- `encoding::put_first` meets its contract. Assumes nothing.
use mathlib.Core.Path.{◌≡◌, subst}
use native.Mathlib.Omega.{arith}
use Rattle.model.specs.Lists.{Puts}
use Rattle.model.specs.Sheet.{sheet_of}
use Rattle.formula.specs.Dimacs.{problem_line, line}
use Rattle.formula.proofs.Lines.{first-line}
use Rattle.encoding.proofs.Laws.{first_fits}
use Rattle.encoding.proofs.put_first.Goals as goal
use Rattle.encoding.proofs.put_first.Lts as lts
use Rattle.encoding.proofs.put_first.Reads as reads
use Rattle.encoding.proofs.put_first.Tie as tie

is_first : (c : lts.After-clause_count tie.the-claims reads.Pre reads.Post) → problem_line c.variable_count-variables.result c.clause_count-clauses.result ≡ line (sheet_of c.args.sheet.now) 0
is_first c =
    first-line (sheet_of c.args.sheet.now) c.variable_count-variables.result c.clause_count-clauses.result c.variable_count-variables.ensures.0 c.clause_count-clauses.ensures.0

pub problem_line-requires : goal.problem_line-requires
problem_line-requires c =
    first_fits _ _ _ (omega (arith, c.variable_count-variables.ensures.1)) (omega (arith, c.clause_count-clauses.ensures.1)) (omega (arith, c.requires.1))

pub returns : goal.returns
returns c =
    let at-problem = c.before.before.before in
    let a = at-problem.args in
    subst (λ w. Puts a.buf.now 0 w at-problem.problem_line.new.buf at-problem.problem_line.result) (is_first at-problem.before.before) at-problem.problem_line.ensures
