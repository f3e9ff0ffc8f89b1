-- `book_list::list_wanted` meets its contract: nothing is known at first. Assumes nothing.
use native.Mathlib.Omega.{arith}
use Rattle.book.specs.Book.{book_of}
use Rattle.book_ask.proofs.Verdicts.{none-known}
use Rattle.book_list.proofs.list_wanted.Goals as goal

pub deliver-requires : goal.deliver-requires
deliver-requires c =
    (c.requires.0, c.requires.1, none-known (book_of c.args.book.now), omega arith)
