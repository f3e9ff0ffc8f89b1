-- `c_sheet::read` meets its contract: what reading answers, handed over. Assumes nothing.
use mathlib.Core.Path.{◌≡◌, refl, sym, ap, ◌∙◌}
use Rattle.calls.specs.Calls.{reading, refused, finished, four_counts}
use Rattle.parts.specs.Counts.{counts_of}
use Rattle.sheet.specs.Answer.{number_of, answer}
use Rattle.c_answer.proofs.Negated.{minus_stored}
use Rattle.c_sheet.proofs.read.Goals as goal

pub returns-in-Err : goal.returns-in-Err
returns-in-Err c =
    let at_read = c.read in
    let b = c.args.sheet.now in
    let f = c.in-Err.first in
    let e : reading b ≡ refused (number_of f) = sym at_read.ensures.result_value ∙ ap answer c.in-Err.is in
    let n : c.from.result ≡ number_of f = c.from.ensures in
    rw (e, c.minus.ensures.0, n) (minus_stored (number_of f) (rw n at c.minus.ensures.1), refl)

pub returns-in-Ok : goal.returns-in-Ok
returns-in-Ok c =
    let at_read = c.read in
    let b = c.args.sheet.now in
    let e : reading b ≡ finished (four_counts (counts_of c.in-Ok.found)) = sym at_read.ensures.result_value ∙ ap answer c.in-Ok.is in
    rw (e, c.from-letters.ensures, c.from-fields.ensures, c.from-equations.ensures, c.from-constraints.ensures) (refl, refl)
