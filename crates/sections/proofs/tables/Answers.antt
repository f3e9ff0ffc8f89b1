-- `sections::tables` meets its contract: the letters, then the limits. Assumes nothing.
use mathlib.Core.Path.{◌≡◌, sym, subst, ◌∙◌}
use Prim.Native.Nat.{◌+◌}
use native.Mathlib.Omega.{arith}
use lib.ListN.{drop}
use Rattle.model.specs.Sheet as model
use Rattle.std.proofs.lemmas.Result.{err_from_is_err_and}
use Rattle.rows.specs.Progress.{HasLanded}
use Rattle.model.proofs.Rests.{rest_stops, rest_goes}
use Rattle.sections.proofs.tables.Goals as goal

pub returns-in_err-a-clause-result_value : goal.returns-in_err-a-clause-result_value
returns-in_err-a-clause-result_value c =
    let p = err_from_is_err_and c.from_residual.result c.from_residual.ensures.1 in
    let xs = drop 9 c.args.sheet.now in
    let e = rw c.from.ensures at (sym c.in_err-a.ensures.result_value) in
    rw (p.1, p.2) (sym (rest_stops (model.row model.letter_byte 0 c.args.letters xs) (λ ls ys. model.row model.limit_byte 0 c.args.fields ys) e))

pub returns-clause-result_value : goal.returns-clause-result_value
returns-clause-result_value c =
    let xs = drop 9 c.args.sheet.now in
    let e = rw c.from.ensures at (sym c.in_ok-a.ensures.result_value) in
    let e2 = rw c.from-2.ensures at c.row-2.ensures.result_value in
    e2 ∙ sym (rest_goes (model.row model.letter_byte 0 c.args.letters xs) (model.row model.limit_byte 0 c.args.fields) e)

pub returns-clause-landed : goal.returns-clause-landed
returns-clause-landed c =
    let n : c.in_ok-a.a + c.from-2.result ≡ 9 + c.args.letters + c.args.fields = omega (arith, c.in_ok-a.ensures.landed) in
    subst (λ m. HasLanded c.args.sheet.now m c.row-2.result) n c.row-2.ensures.landed
