use Prim.Native.Nat.{◌+◌, ◌-◌}
use Rattle.model.specs.Lists.{each, up_to}
use Rattle.model.proofs.Seams.{Written}
use Rattle.book.specs.Book.{book_of}
use Rattle.book_ask.specs.Verdicts.{Remembers}
use Rattle.book_list.specs.Wanted.{listed}
use Rattle.book_list.proofs.Laws.{piece}
use Rattle.book_list.proofs.put_row.Given as goal

abbrev pub invariant-loop-j : goal.invariant-loop-j
invariant-loop-j l = Written l.initial.list l.at (each (up_to (l.j - (l.i + 1))) (piece (listed l.wanted (book_of l.book)) l.i)) l.list l.past × Remembers (book_of l.book) l.verdicts
