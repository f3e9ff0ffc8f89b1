-- `substitution::check` meets its contract: the sheet's refusal, or the check of the filling. Assumes nothing.
use mathlib.Core.Path.{sym, ◌∙◌}
use Rattle.std.proofs.lemmas.Result.{err_from_is_err_and}
use Rattle.calls.specs.Calls.{checking}
use Rattle.calls.proofs.Operations.{sheet_refused, sheet_accepted}
use Rattle.substitution.proofs.check.Goals as goal

pub check_filling-requires : goal.check_filling-requires
check_filling-requires c = (c.in_ok-read.ensures {u = tt}).admitted.0

pub returns-in_err-read : goal.returns-in_err-read
unfolding checking
returns-in_err-read c =
    let told = err_from_is_err_and c.from_residual.result c.from_residual.ensures.1 in
    rw (told.1, told.2) (sym (sheet_refused c.args.sheet.now _ _ (sym (c.in_err-read.ensures {u = tt}).result_value)))

pub returns : goal.returns
unfolding checking
returns c =
    c.check_filling.ensures ∙ sym (sheet_accepted c.args.sheet.now _ (c.in_ok-read.ensures {u = tt}).admitted.0)
