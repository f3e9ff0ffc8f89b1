-- `sections::walked` meets its contract: the tables, the equations, the constraints. Assumes nothing.
use mathlib.Core.Path.{sym, ◌∙◌}
use lib.ListN.{drop}
use Rattle.std.proofs.lemmas.Result.{err_from_is_err_and}
use Rattle.sections.specs.Sections.{counts_of}
use Rattle.model.proofs.Rests.{walk_stops}
use Rattle.sections.proofs.Walks.{equations_stop, constraints-left}
use Rattle.sections.proofs.walked.Goals as goal

pub returns-in_err-a-clause-result_value : goal.returns-in_err-a-clause-result_value
returns-in_err-a-clause-result_value c =
    let p = err_from_is_err_and c.from_residual.result c.from_residual.ensures.1 in
    let n = c.args in
    rw (p.1, p.2) (sym (walk_stops (counts_of n.letters n.fields n.equations n.constraints) (drop 9 n.sheet.now) (sym c.in_err-a.ensures.result_value)))

pub returns-in_err-e-clause-result_value : goal.returns-in_err-e-clause-result_value
returns-in_err-e-clause-result_value c =
    let p = err_from_is_err_and c.from_residual-in_err-e.result c.from_residual-in_err-e.ensures.1 in
    let n = c.args in
    let e = rw c.from-n.ensures at (sym c.in_err-e.ensures.result_value) in
    rw (p.1, p.2) (sym (equations_stop n.sheet.now (counts_of n.letters n.fields n.equations n.constraints) c.in_ok-a.a (sym c.in_ok-a.ensures.result_value) e))

pub returns-clause-result_value : goal.returns-clause-result_value
returns-clause-result_value c =
    let n = c.args in
    let e = rw c.from-n.ensures at (sym c.in_ok-e.ensures.result_value) in
    let e2 = rw c.from-r.ensures at c.entries-2.ensures.result_value in
    e2 ∙ sym (constraints-left n.sheet.now (counts_of n.letters n.fields n.equations n.constraints) c.in_ok-a.a (sym c.in_ok-a.ensures.result_value) c.in_ok-e.e e)
