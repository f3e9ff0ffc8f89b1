-- `sections::equation` meets its contract: the two counts are the two bytes that stand there. Assumes nothing.
use mathlib.Core.Path.{◌≡◌, sym, ◌∙◌}
use native.Mathlib.Nat.{add-zero}
use lib.ListN.{get_or, drop}
use lib.Seq.{get_or-drop}
use Rattle.std.proofs.lemmas.Result.{err_from_is_err_and}
use Rattle.sections.specs.Sections.{limits_in}
use Rattle.model.proofs.Rests.{counts_stop, counts_read}
use Rattle.sections.proofs.equation.Goals as goal

pub returns-in_err-a-clause-result_value : goal.returns-in_err-a-clause-result_value
returns-in_err-a-clause-result_value c =
    let p = err_from_is_err_and c.from_residual.result c.from_residual.ensures.1 in
    let a = c.args in
    let b = a.sheet.now in
    rw (p.1, p.2) (sym (counts_stop a.letters (limits_in b a.letters a.fields) (drop a.at b) (sym c.in_err-a.ensures.result_value)))

pub returns-clause-result_value : goal.returns-clause-result_value
returns-clause-result_value c =
    let a = c.args in
    let b = a.sheet.now in
    let xs = drop a.at b in
    let read = counts_read a.letters (limits_in b a.letters a.fields) xs (drop c.in_ok-a.a b) (sym c.in_ok-a.ensures.result_value) in
    let m : c.from-m.result ≡ get_or xs 0 0 = c.from-m.ensures ∙ rw (get_or-drop, add-zero) in
    let n : c.from-n.result ≡ get_or xs 1 0 = c.from-n.ensures ∙ rw get_or-drop in
    c.sides.ensures.result_value ∙ sym (read ∙ rw (← m, ← n))
