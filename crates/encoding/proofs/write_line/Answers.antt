-- `encoding::write_line` meets its contract: the refusals in their order, or the line copied. Assumes nothing.
use mathlib.Core.Path.{◌≡◌, sym, ap, subst, ◌∙◌}
use mathlib.Core.List.{[], ◌∷◌}
use native.Mathlib.Omega.{arith}
use lib.ListN.{length, replicate}
use Rattle.std.specs.Option.{ok_or}
use Rattle.std.proofs.lemmas.Result.{err_from_is_err_and}
use Rattle.model.specs.Sheet.{sheet_of}
use Rattle.model.specs.Lists.{Puts}
use Rattle.formula.specs.Dimacs as dimacs
use Rattle.calls.specs.Calls.{finished}
use Rattle.calls.proofs.Operations.{writing_sheet, writing-above, writing-room, writing-line, leaves_all, leaves_text}
use Rattle.model.proofs.Seams.{front_is, placed_front}
use Rattle.sheet.specs.Answer.{number_of}
use Rattle.encoding.specs.Lines.{LineWritten}
use Rattle.encoding.specs.declared.Refusal.TheVariants.{Line}
use Rattle.encoding.proofs.write_line.Goals as goal

pub returns-in_err-read : goal.returns-in_err-read
returns-in_err-read c =
    let a = c.args in
    let n = number_of c.in_err-read.field-0.0 in
    let p = err_from_is_err_and c.from_residual.result c.from_residual.ensures.1 in
    rw (p.1, p.2) (leaves_all n a.buf.now (writing_sheet a.sheet.now a.n (length a.buf.now) n (sym c.in_err-read.ensures.result_value)))

pub returns-in_err-len : goal.returns-in_err-len
returns-in_err-len c =
    let a = c.args in
    let above = subst (λ r. LineWritten (sheet_of a.sheet.now) a.n (replicate 80 0) r c.put_line.new.buf) c.in_err-len.ensures.ok_part c.put_line.ensures in
    let e = c.in_err-len.ensures.value ∙ ap (λ r. ok_or r Line) c.in_err-len.ensures.ok_part in
    let is : c.in_err-len.field-0.0 ≡ Line = cc in
    let p = err_from_is_err_and c.from_residual-in_err-len.result c.from_residual-in_err-len.ensures.1 in
    rw (p.1, p.2, is) (leaves_all 28 a.buf.now (writing-above a.sheet.now a.n (length a.buf.now) c.in_ok-read.ensures.admitted.0 above.0))

pub returns-then-buf-len : goal.returns-then-buf-len
returns-then-buf-len c =
    let a = c.args in
    let line = subst (λ r. LineWritten (sheet_of a.sheet.now) a.n (replicate 80 0) r c.put_line.new.buf) c.in_ok-len.ensures.ok_part c.put_line.ensures in
    leaves_all 29 a.buf.now (writing-room a.sheet.now a.n (length a.buf.now) c.in_ok-read.ensures.admitted.0 line.0 (omega (arith, line.1.0, c.if-buf-len.true)))

pub returns : goal.returns
returns c =
    let a = c.args in
    let w = dimacs.line (sheet_of a.sheet.now) a.n in
    let line = subst (λ r. LineWritten (sheet_of a.sheet.now) a.n (replicate 80 0) r c.put_line.new.buf) c.in_ok-len.ensures.ok_part c.put_line.ensures in
    let p = subst (λ x. Puts a.buf.now 0 x c.put.new.buf c.put.result) (front_is (replicate 80 0) w c.put_line.new.buf c.in_ok-len.len line.1) c.put.ensures in
    let r : c.put.result ≡ length w = omega (arith, p.0) in
    let all = leaves_text w a.buf.now (writing-line a.sheet.now a.n (length a.buf.now) c.in_ok-read.ensures.admitted.0 line.0 (omega (arith, line.1.0, c.if-buf-len.false))) in
    (ap (λ k. finished (k ∷ [])) r ∙ all.0, p.1 ∙ placed_front a.buf.now w ∙ all.1)
