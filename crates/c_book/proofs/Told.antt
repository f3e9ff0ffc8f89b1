-- What the number tells that `tpl_book` returns: from 0 on it is how many pairs of templates clash, and their list is in the buffer. Assumes nothing.
use mathlib.Core.Path.{◌≡◌, sym, ◌∙◌}
use mathlib.Core.List.{List}
use Prim.Native.Nat.{ℕ}
use lib.IntN.{ℤ, pos}
use lib.ListN.{length}
use Rattle.model.specs.Lists.{Bytes}
use Rattle.book.specs.Book.{book_of}
use Rattle.calls.specs.Calls.{comparing, decision}
use Rattle.calls.proofs.Comparing.{comparing-refused, comparing_counts}
use Rattle.calls.proofs.BookOfTemplates.{ListsTheClashes, lists_the_clashes}
use Rattle.c_answer.specs.Returned.{Decided}
use Rattle.c_answer.proofs.Told.{counted-decision, decided_decides}

module _ (b before after : List ℕ) (r : ℤ) (call : Decided (comparing b (length before)) before r after) where
  pub number-listed : Bytes b → (n : ℕ) → r ≡ pos n → ListsTheClashes (book_of b) before after n
  number-listed y n e =
      lists_the_clashes b before after (decision (comparing b (length before))) (decided_decides (comparing b (length before)) before after r call) y n
      (counted-decision (comparing b (length before)) n (comparing-refused b (length before)) (comparing_counts b (length before)) (sym call.0 ∙ e))
