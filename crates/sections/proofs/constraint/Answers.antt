-- `sections::constraint` meets its contract: the coefficients, then the limit. Assumes nothing.
use mathlib.Core.Path.{sym, ◌∙◌}
use lib.ListN.{drop}
use Rattle.model.specs.Sheet as model
use Rattle.std.proofs.lemmas.Result.{err_from_is_err_and}
use Rattle.model.proofs.Rests.{rest_stops, rest_goes, constraint-rest}
use Rattle.sections.proofs.constraint.Goals as goal

pub returns-in_err-a-clause-result_value : goal.returns-in_err-a-clause-result_value
returns-in_err-a-clause-result_value c =
    let p = err_from_is_err_and c.from_residual.result c.from_residual.ensures.1 in
    let v = c.args.fields in
    let xs = drop c.args.at c.args.sheet.now in
    let e = rw c.from.ensures at (sym c.in_err-a.ensures.result_value) in
    rw (p.1, p.2) (sym (constraint-rest v xs ∙ rest_stops (model.row model.coefficient_byte 0 v xs) (λ cs ys. model.row model.most_byte 0 2 ys) e))

pub returns-clause-result_value : goal.returns-clause-result_value
returns-clause-result_value c =
    let v = c.args.fields in
    let xs = drop c.args.at c.args.sheet.now in
    let e = rw c.from.ensures at (sym c.in_ok-a.ensures.result_value) in
    c.row-2.ensures.result_value ∙ sym (constraint-rest v xs ∙ rest_goes (model.row model.coefficient_byte 0 v xs) (model.row model.most_byte 0 2) e)
