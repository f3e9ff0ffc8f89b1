-- `substitution::spell` meets its contract: the refusals in their order, or the template spelled. Assumes nothing.
use mathlib.Core.Path.{sym, ap, ◌∙◌}
use native.Mathlib.Omega.{arith}
use lib.ListN.{length}
use Rattle.std.proofs.lemmas.Result.{err_from_is_err_and}
use Rattle.model.specs.Sheet.{Counts}
use Rattle.calls.proofs.Operations.{spelling_sheet, spelling-equation, spelling-side, spelling_on, leaves_all}
use Rattle.substitution.proofs.spell.Goals as goal

pub four_counts-requires : goal.four_counts-requires
four_counts-requires c = (c.in_ok-read.ensures {u = tt}).admitted.0

pub returns-in_err-read : goal.returns-in_err-read
returns-in_err-read c =
    let told = err_from_is_err_and c.from_residual.result c.from_residual.ensures.1 in
    let a = c.args in
    rw (told.1, told.2) (leaves_all _ a.buf.now (spelling_sheet a.sheet.now a.equation a.side a.bytes.now (length a.buf.now) _ (sym (c.in_err-read.ensures {u = tt}).result_value)))

pub returns-then-equation-from : goal.returns-then-equation-from
returns-then-equation-from c =
    let a = c.args in
    let ready = (c.in_ok-read.ensures {u = tt}).admitted.0 in
    let counted = c.from.ensures ∙ ap (λ (n : Counts). n.equation_count) c.four_counts.ensures in
    leaves_all 24 a.buf.now (spelling-equation a.sheet.now a.equation a.side a.bytes.now (length a.buf.now) ready (omega arith))

pub returns-then-side-gt1 : goal.returns-then-side-gt1
returns-then-side-gt1 c =
    let a = c.args in
    let ready = (c.in_ok-read.ensures {u = tt}).admitted.0 in
    let counted = c.from.ensures ∙ ap (λ (n : Counts). n.equation_count) c.four_counts.ensures in
    leaves_all 25 a.buf.now (spelling-side a.sheet.now a.equation a.side a.bytes.now (length a.buf.now) ready (omega arith) (omega arith))

pub spell_filling-requires : goal.spell_filling-requires
spell_filling-requires c =
    let a = c.args in
    let ready = (c.in_ok-read.ensures {u = tt}).admitted.0 in
    let counted = c.from.ensures ∙ ap (λ (n : Counts). n.equation_count) c.four_counts.ensures in
    (ready, omega arith)

pub returns : goal.returns
returns c =
    let a = c.args in
    let ready = (c.in_ok-read.ensures {u = tt}).admitted.0 in
    let counted = c.from.ensures ∙ ap (λ (n : Counts). n.equation_count) c.four_counts.ensures in
    rw (spelling_on a.sheet.now a.equation a.side a.bytes.now (length a.buf.now) ready (omega arith) (omega arith)) c.spell_filling.ensures
