-- `book_list::compare` meets its contract: the refusals of the book, or what comparing an accepted book's templates comes to. Assumes nothing.
use lib.ListN.{length}
use Rattle.std.proofs.lemmas.Result.{err_from_is_err_and}
use Rattle.calls.specs.Calls.{comparing}
use Rattle.calls.proofs.Comparing.{comparing_book, decides_refused}
use Rattle.book_read.specs.Walk.{number_of}
use Rattle.book_list.proofs.compare.Goals as goal

pub returns-in_err-read : goal.returns-in_err-read
returns-in_err-read c =
    let a = c.args in
    let b = a.book.now in
    let p = err_from_is_err_and c.from_residual.result c.from_residual.ensures.1 in
    rw (p.1, p.2) (decides_refused (comparing b (length a.list.now)) a.list.now (number_of c.in_err-read.field-0.0) (comparing_book b (length a.list.now) c.in_err-read.ensures))
