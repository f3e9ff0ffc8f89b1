-- `literals::put_clause` meets its contract: the clause's nine codes, written as a line. Assumes nothing.
use mathlib.Core.Path.{ap, subst, ◌∙◌}
use native.Mathlib.Omega.{arith}
use lib.ListN.{length}
use Rattle.model.specs.Lists.{Puts}
use Rattle.model.specs.Sheet.{sheet_of}
use Rattle.dimacs.specs.Codes.{codes_line}
use Rattle.literals.specs.Name.{name_of}
use Rattle.literals.proofs.Laws.{nine-line}
use Rattle.literals.proofs.put_clause.Goals as goal

pub clause_line-requires : goal.clause_line-requires
clause_line-requires c =
    let at-codes = c.codes in
    let e = ap length (ap codes_line at-codes.ensures ∙ nine-line (sheet_of c.args.sheet.now) (name_of c.args.id)) in
    omega (arith, c.requires.2)

pub returns : goal.returns
returns c =
    let at-codes = c.codes in
    let at-clause-line = c.clause_line in
    let e = ap codes_line at-codes.ensures ∙ nine-line (sheet_of c.args.sheet.now) (name_of c.args.id) in
    subst (λ w. Puts c.args.buf.now c.args.at w at-clause-line.new.buf at-clause-line.result) e at-clause-line.ensures
