-- What the number tells that `tpl_book_hours` returns: from 0 on it is how many pairs of templates clash and share a minute, and their list is in the buffer. Assumes
-- nothing.
use mathlib.Core.Path.{◌≡◌, sym, ◌∙◌}
use mathlib.Core.List.{List}
use Prim.Native.Nat.{ℕ}
use lib.IntN.{ℤ, pos}
use lib.ListN.{length}
use Rattle.model.specs.Lists.{Bytes}
use Rattle.book.specs.Book.{book_of}
use Rattle.schedule.specs.Schedule.{schedule_of}
use Rattle.calls.specs.Calls.{comparing_hours, decision}
use Rattle.calls.proofs.Comparing.{comparing_hours_refused, comparing_hours_counts}
use Rattle.calls.proofs.BookOfTemplates.{Lists}
use Rattle.calls.proofs.ShopHours.{ClashesAndShares, lists_those_that_share}
use Rattle.c_answer.specs.Returned.{Decided}
use Rattle.c_answer.proofs.Told.{counted-decision, decided_decides}

module _ (b h before after : List ℕ) (r : ℤ) (call : Decided (comparing_hours b h (length before)) before r after) where
  pub number-listed : Bytes b → Bytes h → (n : ℕ) → r ≡ pos n
      → Lists (ClashesAndShares (book_of b) (schedule_of (length (book_of b).templates) h)) (length (book_of b).templates) before after n
  number-listed y z n e =
      lists_those_that_share b h before after (decision (comparing_hours b h (length before))) (decided_decides (comparing_hours b h (length before)) before after r call) y z n
      (counted-decision (comparing_hours b h (length before)) n (comparing_hours_refused b h (length before)) (comparing_hours_counts b h (length before)) (sym call.0 ∙ e))
