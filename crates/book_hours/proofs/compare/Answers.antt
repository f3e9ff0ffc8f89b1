-- `book_hours::compare` meets its contract: the refusals of the book, or what the list with hours comes to. Assumes nothing.
use lib.ListN.{length}
use Rattle.std.proofs.lemmas.Result.{err_from_is_err_and}
use Rattle.calls.specs.Calls.{comparing_hours}
use Rattle.calls.proofs.Comparing.{comparing_hours_book, decides_refused}
use Rattle.book_read.specs.Walk.{number_of}
use Rattle.book_hours.proofs.compare.Goals as goal

pub returns-in_err-read : goal.returns-in_err-read
returns-in_err-read c =
    let a = c.args in
    let b = a.book.now in
    let l = a.list.now in
    let p = err_from_is_err_and c.from_residual.result c.from_residual.ensures.1 in
    rw (p.1, p.2) (decides_refused (comparing_hours b a.hours.now (length l)) l (number_of c.in_err-read.field-0.0) (comparing_hours_book b a.hours.now (length l) c.in_err-read.ensures))
