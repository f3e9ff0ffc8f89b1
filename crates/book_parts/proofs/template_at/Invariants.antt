use lib.ListN.{drop}
use Rattle.model.specs.Lists.{each, Holds}
use Rattle.book.specs.Book.{encode_template, book_of}
use Rattle.book_parts.proofs.template_at.Given as goal

abbrev pub invariant-loop : goal.invariant-loop
invariant-loop l = Holds l.book l.at (each (drop l.counter (book_of l.book).templates) encode_template)
