-- `substitution::check_filling` meets its contract: the filling's refusal, or the test. Assumes nothing.
use mathlib.Core.Path.{sym}
use Rattle.std.proofs.lemmas.Result.{err_from_is_err_and}
use Rattle.model.specs.Sheet.{sheet_of}
use Rattle.model.specs.Filling.{filling}
use Rattle.calls.proofs.Operations.{filling-refused}
use Rattle.substitution.proofs.check_filling.Goals as goal

pub admit-requires : goal.admit-requires
admit-requires c = c.requires

pub load-g-requires : goal.load-g-requires
load-g-requires c = (c.requires, sym (c.in_ok-admit.ensures {u = tt}))

pub judge-requires : goal.judge-requires
judge-requires c = c.load-g.ensures.0

pub returns-in_err-admit : goal.returns-in_err-admit
returns-in_err-admit c =
    let told = err_from_is_err_and c.from_residual.result c.from_residual.ensures.1 in
    rw (told.1, told.2) (sym (filling-refused (filling (sheet_of c.args.sheet.now) c.args.bytes.now) _ _ (sym (c.in_err-admit.ensures {u = tt}))))
