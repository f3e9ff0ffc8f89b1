-- `c_sheet::check` meets its contract: what checking answers, handed over. Assumes nothing.
use mathlib.Core.Path.{◌≡◌, refl, sym, ap, ◌∙◌}
use mathlib.Core.List.{[], ◌∷◌}
use Rattle.calls.specs.Calls.{refused, finished, judgement_values, checking}
use Rattle.judge.specs.Answer.{meant}
use Rattle.substitution.specs.Answer.{number_of, checked}
use Rattle.c_answer.proofs.Negated.{minus_told}
use Rattle.c_sheet.proofs.check.Goals as goal

pub returns-in-Ok-Solution : goal.returns-in-Ok-Solution
returns-in-Ok-Solution c =
    let a = c.args in
    let e : checking a.sheet.now a.filling.now ≡ finished (1 ∷ []) = sym c.check.ensures ∙ ap checked c.in-Ok-Solution.is ∙ ap (λ j. finished (judgement_values (meant j))) c.in-Ok-Solution.field-0-is in
    rw e (refl, refl)

pub returns-in-Ok-Differs : goal.returns-in-Ok-Differs
returns-in-Ok-Differs c =
    let a = c.args in
    let p = c.in-Ok-Differs.equation in
    let e : checking a.sheet.now a.filling.now ≡ finished (0 ∷ 1 ∷ p ∷ c.in-Ok-Differs.found.agreeing ∷ c.in-Ok-Differs.found.side ∷ c.in-Ok-Differs.found.rest ∷ []) =
    sym c.check.ensures ∙ ap checked c.in-Ok-Differs.is ∙ ap (λ j. finished (judgement_values (meant j))) c.in-Ok-Differs.field-0-is in
    rw e (refl, refl)

pub returns-in-Ok-Breaks : goal.returns-in-Ok-Breaks
returns-in-Ok-Breaks c =
    let a = c.args in
    let r = c.in-Ok-Breaks.constraint in
    let e : checking a.sheet.now a.filling.now ≡ finished (0 ∷ 2 ∷ r ∷ 0 ∷ 0 ∷ 0 ∷ []) =
    sym c.check.ensures ∙ ap checked c.in-Ok-Breaks.is ∙ ap (λ j. finished (judgement_values (meant j))) c.in-Ok-Breaks.field-0-is in
    rw e (refl, refl)

pub returns-in-Err : goal.returns-in-Err
returns-in-Err c =
    let a = c.args in
    let at-check = c.check in
    let f = c.in-Err.refusal in
    let e : checking a.sheet.now a.filling.now ≡ refused (number_of f) = sym at-check.ensures ∙ ap checked c.in-Err.is in
    rw e (minus_told c.from.ensures c.minus.ensures, refl)
