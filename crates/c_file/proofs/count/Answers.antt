-- `c_file::count` meets its contract: what counting answers, handed over. Assumes nothing.
use mathlib.Core.Path.{◌≡◌, refl, sym, ap, ◌∙◌}
use Rattle.calls.specs.Calls.{counting, refused, finished}
use Rattle.sheet.specs.Answer.{number_of}
use Rattle.filing.specs.Answer.{three_counts, counted}
use Rattle.c_answer.proofs.Negated.{minus_stored}
use Rattle.c_file.proofs.count.Goals as goal

pub returns-in-Err : goal.returns-in-Err
returns-in-Err c =
    let at_count = c.count in
    let b = c.args.sheet.now in
    let f = c.in-Err.first in
    let e : counting b ≡ refused (number_of f) = sym at_count.ensures ∙ ap counted c.in-Err.is in
    let n : c.from.result ≡ number_of f = c.from.ensures in
    rw (e, c.minus.ensures.0, n) (minus_stored (number_of f) (rw n at c.minus.ensures.1), refl)

pub returns-in-Ok : goal.returns-in-Ok
returns-in-Ok c =
    let at_count = c.count in
    let b = c.args.sheet.now in
    let e : counting b ≡ finished (three_counts c.in-Ok.found) = sym at_count.ensures ∙ ap counted c.in-Ok.is in
    rw e (refl, refl)
