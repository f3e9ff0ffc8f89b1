-- `book_hours::with_hours` meets its contract: the refusals of the hours, or what the list with accepted hours comes to. Assumes nothing.
use mathlib.Core.Path.{subst}
use lib.ListN.{length}
use Rattle.std.proofs.lemmas.Result.{err_from_is_err_and}
use Rattle.std.specs.Prelude.{Ok, Err}
use Rattle.calls.specs.Calls.{comparing_hours}
use Rattle.calls.proofs.Comparing.{comparing_hours_hours, decides_refused}
use Rattle.schedule_read.specs.Answer.{number_of, Reads}
use Rattle.book_hours.proofs.with_hours.Goals as goal

pub list_shared-requires : goal.list_shared-requires
list_shared-requires c =
    (c.requires, subst (λ n. Reads n c.args.hours.now (Ok c.in_ok-read.field-0)) c.count.ensures c.in_ok-read.ensures)

pub returns-in_err-read : goal.returns-in_err-read
returns-in_err-read c =
    let a = c.args in
    let b = a.list.now in
    let f = c.in_err-read.field-0.0 in
    let p = err_from_is_err_and c.from_residual.result c.from_residual.ensures.1 in
    let h = subst (λ n. Reads n a.hours.now (Err f)) c.count.ensures c.in_err-read.ensures in
    rw (p.1, p.2) (decides_refused (comparing_hours a.book.now a.hours.now (length b)) b (number_of f) (comparing_hours_hours a.book.now a.hours.now (length b) c.requires.0 h))
