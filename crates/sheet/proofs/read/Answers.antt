-- `sheet::read` meets its contract: the header's refusal, or what is read after a header that passes. Assumes nothing.
use mathlib.Core.Path.{◌≡◌, sym, ◌∙◌}
use lib.ListN.{drop}
use Rattle.calls.specs.Calls.{reading}
use Rattle.calls.proofs.Read.{reading-refused, reading_walked}
use Rattle.model.proofs.Opening.{opening_exact}
use Rattle.std.proofs.lemmas.Result.{err_from_is_err_and}
use Rattle.sheet.specs.Answer.{number_of, answer}
use Rattle.parts.specs.Counts.{counts_of}
use Rattle.parts.proofs.Known.{lent_bytes}
use Rattle.sheet.proofs.Known.{admitted_by}
use Rattle.sheet.proofs.read.Goals as goal

pub returns-in_err-counts-clause-result_value : goal.returns-in_err-counts-clause-result_value
returns-in_err-counts-clause-result_value c =
    let p = err_from_is_err_and c.from_residual.result c.from_residual.ensures.1 in
    rw (p.1, p.2) (sym (reading-refused c.args.sheet.now (number_of c.in_err-counts.field-0.0) (sym c.in_err-counts.ensures)))

pub body-requires : goal.body-requires
body-requires c = (opening_exact c.args.sheet.now (sym c.in_ok-counts.ensures)).long

pub returns : goal.returns
returns c =
    let b = c.args.sheet.now in
    let e : answer c.body.result ≡ reading b = c.body.ensures ∙ sym (reading_walked b (counts_of c.in_ok-counts.counts) (drop 9 b) (sym c.in_ok-counts.ensures)) in
    record { result_value = e; admitted = admitted_by b c.body.result (lent_bytes b c.shared_slice_known-1.given) e }
