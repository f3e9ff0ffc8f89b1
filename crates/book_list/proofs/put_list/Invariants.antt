use lib.ListN.{length}
use Rattle.model.specs.Lists.{each, up_to}
use Rattle.model.proofs.Seams.{Written}
use Rattle.book.specs.Book.{book_of}
use Rattle.book.specs.Pairs.{row_bytes}
use Rattle.book_ask.specs.Verdicts.{Remembers}
use Rattle.book_list.specs.Wanted.{listed}
use Rattle.book_list.proofs.put_list.Given as goal

abbrev pub invariant-loop-i : goal.invariant-loop-i
invariant-loop-i l = Written l.initial.list 0 (each (up_to l.i) (row_bytes (listed l.wanted (book_of l.book)) (length (book_of l.book).templates))) l.list l.past × Remembers (book_of l.book) l.verdicts
