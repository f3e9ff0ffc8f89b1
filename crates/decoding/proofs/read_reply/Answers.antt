-- `decoding::read_reply` meets its contract: the refusals of the sheet, 27 and 30 in their order, or what reading the text comes to, with the
-- marks clear. Assumes nothing.
use mathlib.Core.Path.{sym, subst}
use Prim.Native.Nat.{◌+◌, ◌≤◌}
use native.Mathlib.Omega.{arith}
use lib.ListN.{length}
use Rattle.std.proofs.lemmas.Result.{err_from_is_err_and}
use Rattle.model.specs.Sheet.{sheet_of}
use Rattle.calls.specs.Calls.{HandsOver}
use Rattle.formula.proofs.Numbering.{variable_count_lem}
use Rattle.calls.proofs.Operations.{keeps_all}
use Rattle.calls.proofs.Replying.{replying_sheet, replying-room, replying-long, replying-text}
use Rattle.decoding.specs.Answer.{replied}
use Rattle.decoding.proofs.Laws.{clear_length, clear_front}
use Rattle.decoding.proofs.read_reply.Goals as goal

pub fields-requires : goal.fields-requires
fields-requires c = (c.in_ok-read.ensures {u = tt}).admitted

pub overflow_mul-fields : goal.overflow_mul-fields
overflow_mul-fields c =
    let a = c.args in
    let ready = (c.in_ok-read.ensures {u = tt}).admitted in
    let n = ready.1.counts_in.of_fields in
    omega (arith, c.fields.ensures)

pub returns-then-buf-fields : goal.returns-then-buf-fields
returns-then-buf-fields c =
    let a = c.args in
    let ready = (c.in_ok-read.ensures {u = tt}).admitted in
    keeps_all 27 a.buf.now (replying-room a.sheet.now a.text.now (length a.buf.now) ready.0 (omega (arith, c.fields.ensures)))

pub returns-then-text-gt-MOST_REPLY : goal.returns-then-text-gt-MOST_REPLY
returns-then-text-gt-MOST_REPLY c =
    let a = c.args in
    let ready = (c.in_ok-read.ensures {u = tt}).admitted in
    keeps_all 30 a.buf.now (replying-long a.sheet.now a.text.now (length a.buf.now) ready.0 (omega (arith, c.fields.ensures)) (omega arith))

pub variable_count-n-requires : goal.variable_count-n-requires
variable_count-n-requires c = (c.in_ok-read.ensures {u = tt}).admitted

pub slice_bounds-read_text-end : goal.slice_bounds-read_text-end
slice_bounds-read_text-end c =
    sym (clear_length (c.variable_count-n.result + 1) 5649 (omega (arith, c.variable_count-n.ensures.1)))

pub read_text-requires : goal.read_text-requires
read_text-requires c =
    let a = c.args in
    let ready = (c.in_ok-read.ensures {u = tt}).admitted in
    let s = sheet_of a.sheet.now in
    let n = c.variable_count-n.result + 1 in
    let few : n ≤ 5649 = omega (arith, c.variable_count-n.ensures.1) in
    let long = clear_length n 5649 few in
    ((ready, omega (arith, c.variable_count-n.ensures.0, variable_count_lem s)), clear_front n 5649 few, omega arith, omega (arith, c.fields.ensures))

pub returns-in_err-read : goal.returns-in_err-read
returns-in_err-read c =
    let told = err_from_is_err_and c.from_residual.result c.from_residual.ensures.1 in
    let a = c.args in
    rw (told.1, told.2) (keeps_all _ a.buf.now (replying_sheet a.sheet.now a.text.now (length a.buf.now) _ (sym (c.in_err-read.ensures {u = tt}).result_value)))

pub returns : goal.returns
returns c =
    let a = c.args in
    let ready = (c.in_ok-read.ensures {u = tt}).admitted in
    let same = replying-text a.sheet.now a.text.now (length a.buf.now) ready.0 (omega (arith, c.fields.ensures)) (omega arith) in
    subst (λ z. HandsOver z a.buf.now (replied c.read_text.result) c.read_text.new.buf) (sym same) c.read_text.ensures
