-- What the numbers tell that these calls return: 0 of `tpl_count` is for an accepted sheet and no other, and a number of `tpl_file` from 0 on is the
-- length of that sheet's clause file. Assumes nothing.
use mathlib.Core.Path.{◌≡◌, ap}
use mathlib.Core.List.{List}
use Prim.Native.Nat.{ℕ}
use lib.IntN.{pos}
use Rattle.model.specs.Sheet.{Accepted}
use Rattle.calls.specs.Calls.{counting, filing, sized}
use Rattle.calls.proofs.Refusals.{counting-refused}
use Rattle.calls.proofs.Operations.{sheet_finished, counting_counts, Sized}
use Rattle.calls.proofs.Filing.{FileOf, filing-refused, filing-answered}
use Rattle.c_answer.specs.Returned.{returned, returned_number}
use Rattle.c_answer.proofs.Told.{zero_finished, length-told}

-- `tpl_count`: 0 for an accepted sheet, and no other
pub zero_counted : (b : List ℕ) → returned (counting b) ≡ pos 0 → Accepted b
unfolding counting
zero_counted b e = sheet_finished b _ (zero_finished (counting b) (counting-refused b) e).is

pub counted_zero : (b : List ℕ) → Accepted b → returned (counting b) ≡ pos 0
counted_zero b h = ap returned (counting_counts b h)

-- `tpl_file`: a number of 0 or more is the length of the file, which fits into the buffer
pub length-filed : (b : List ℕ) (room n : ℕ) → returned_number (sized (filing b room)) ≡ pos n → Sized (filing b room) n
length-filed b room n e = length-told (filing b room) n (filing-refused b room) e

pub is-file : (b : List ℕ) (room n : ℕ) (e : returned_number (sized (filing b room)) ≡ pos n) → FileOf b room (length-filed b room n e).text
is-file b room n e = filing-answered b room (length-filed b room n e).is
