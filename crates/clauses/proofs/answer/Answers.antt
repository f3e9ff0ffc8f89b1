-- `clauses::answer` meets its contract: the line of a refusal, or the file. Assumes nothing.
use mathlib.Core.Path.{sym, ap, subst, ◌∙◌}
use native.Mathlib.Omega.{arith}
use Rattle.model.specs.Lists.{Puts}
use Rattle.model.specs.Sheet.{sheet_of}
use Rattle.formula.proofs.Lines.{file-small}
use Rattle.calls.proofs.Printing.{clauses_refused, clauses_accepted}
use Rattle.sheet.specs.Answer.{number_of, answer, IsAdmitted}
use Rattle.calls.specs.Report.{refused_line}
use Rattle.clauses.proofs.answer.Goals as goal

pub put_file-requires : goal.put_file-requires
put_file-requires c =
    let at_read = c.read in
    let ok = (subst (IsAdmitted c.args.sheet.now) c.in-Ok.is at_read.ensures.admitted) in
    (ok, omega (arith, file-small (sheet_of c.args.sheet.now) ok.1, c.requires))

pub returns-in-Err : goal.returns-in-Err
returns-in-Err c =
    let at_read = c.read in
    let at-number = c.from in
    let at-refusal2 = c.refusal in
    let b = c.args.sheet.now in
    let told = sym at_read.ensures.result_value ∙ ap answer c.in-Err.is in
    let e = clauses_refused b (number_of c.in-Err.refusal) told ∙ ap refused_line (sym at-number.ensures) in
    subst (λ w. Puts c.args.out.now 0 w at-refusal2.new.buf at-refusal2.result) (sym e) at-refusal2.ensures.0

pub returns-in-Ok : goal.returns-in-Ok
returns-in-Ok c =
    let at-put-file = c.put_file in
    let at_read = c.read in
    let b = c.args.sheet.now in
    subst (λ w. Puts c.args.out.now 0 w at-put-file.new.buf at-put-file.result) (sym (clauses_accepted b (subst (IsAdmitted c.args.sheet.now) c.in-Ok.is at_read.ensures.admitted).0)) at-put-file.ensures
