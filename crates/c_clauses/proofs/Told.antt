-- What the numbers tell that `tpl_line` returns: one from 0 on is a line's length. Assumes nothing.
use mathlib.Core.Path.{◌≡◌}
use mathlib.Core.List.{List}
use Prim.Native.Nat.{ℕ}
use lib.IntN.{pos}
use Rattle.calls.specs.Calls.{writing, sized}
use Rattle.calls.proofs.Refusals.{writing-refused}
use Rattle.calls.proofs.Operations.{LineOf, writing-answered, Sized}
use Rattle.c_answer.specs.Returned.{returned_number}
use Rattle.c_answer.proofs.Told.{length-told}

-- `tpl_line`: a number of 0 or more is the length of that line, which the sheet has
pub length-lined : (b : List ℕ) (line room n : ℕ) → returned_number (sized (writing b line room)) ≡ pos n → Sized (writing b line room) n
length-lined b line room n e = length-told (writing b line room) n (writing-refused b line room) e

pub is-line : (b : List ℕ) (line room n : ℕ) (e : returned_number (sized (writing b line room)) ≡ pos n) → LineOf b line room (length-lined b line room n e).text
is-line b line room n e = writing-answered b line room (length-lined b line room n e).is
