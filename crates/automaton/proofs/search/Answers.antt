-- `automaton::search` meets its contract: the refusals of the sheet and 27 in their order, or what searching an accepted sheet comes to. Assumes
-- nothing.
use mathlib.Core.Path.{sym}
use native.Mathlib.Omega.{arith}
use lib.ListN.{length}
use Rattle.calls.proofs.Searching.{searching_sheet, searching-room, search_refused}
use Rattle.std.proofs.lemmas.Result.{err_from_is_err_and}
use Rattle.sheet.specs.Answer.{number_of}
use Rattle.automaton.proofs.search.Goals as goal

pub returns-in_err-read : goal.returns-in_err-read
returns-in_err-read c =
    let a = c.args in
    let n = number_of c.in_err-read.field-0.0 in
    let p = err_from_is_err_and c.from_residual.result c.from_residual.ensures.1 in
    rw (p.1, p.2) (search_refused a.sheet.now a.buf.now n (searching_sheet a.sheet.now (length a.buf.now) n (sym c.in_err-read.ensures.result_value)))

pub overflow_mul-fields : goal.overflow_mul-fields
overflow_mul-fields c = let n = c.in_ok-read.ensures.admitted.1.counts_in.of_fields in omega (arith, c.fields.ensures)

pub returns-then-buf-fields : goal.returns-then-buf-fields
returns-then-buf-fields c =
    let a = c.args in
    search_refused a.sheet.now a.buf.now 27 (searching-room a.sheet.now (length a.buf.now) c.in_ok-read.ensures.admitted.0 (omega (arith, c.fields.ensures)))

pub hand_over-requires : goal.hand_over-requires
hand_over-requires c = (c.in_ok-read.ensures.admitted, omega (arith, c.fields.ensures))
