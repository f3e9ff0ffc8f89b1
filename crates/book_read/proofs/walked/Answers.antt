-- `book_read::walked` meets its contract: the letter count, the letters, and what stands after them. Assumes nothing.
use mathlib.Core.Path.{◌≡◌, sym, ◌∙◌}
use Prim.Native.Nat.{◌+◌}
use lib.ListN.{get_or, drop}
use Rattle.model.specs.Sheet.{letter_byte, row}
use Rattle.book.specs.Book.{some_templates, body}
use Rattle.book.proofs.Rests.{body-none, letters_stop, letters-left}
use Rattle.book_read.proofs.Walks.{row_read, row_stops, came_same, first-left}
use Rattle.book_read.proofs.walked.Goals as goal

pub returns-in_err-letters : goal.returns-in_err-letters
returns-in_err-letters c =
    let n = c.in_err-letters.ensures in
    rw c.from_residual.ensures (n.0, body-none (drop 5 c.args.book.now) n.1)

pub returns-in_err-end : goal.returns-in_err-end
returns-in_err-end c =
    let b = c.args.book.now in
    let n = c.from.result in
    let k = c.in_ok-letters.ensures in
    let is : n ≡ get_or (drop 5 b) 0 0 = c.from.ensures ∙ k.2 ∙ sym (first-left b 5) in
    let r = row_stops b (row letter_byte 0 n (drop 6 b)) (6 + n) c.row.result c.ok.result c.row.ensures.result_value c.row.ensures.landed c.ok.ensures.value c.in_err-end.was in
    rw c.from_residual-in_err-end.ensures (r.0, letters_stop (drop 5 b) n (drop 6 b) is k.0 r.1)

pub returns : goal.returns
returns c =
    let b = c.args.book.now in
    let e = c.in_ok-end.end in
    let l = c.in_ok-letters.letters in
    let n = c.from.result in
    let k = c.in_ok-letters.ensures in
    let r = row_read b (row letter_byte 0 n (drop 6 b)) (6 + n) c.row.result c.ok.result c.row.ensures.result_value c.row.ensures.landed c.ok.ensures.value e c.in_ok-end.was in
    came_same b (some_templates l (drop e b)) (body (drop 5 b)) c.after_letters.result
    (sym (letters-left (drop 5 b) l (drop 6 b) (k.2 ∙ sym (first-left b 5)) k.0 (drop e b) (rw c.from.ensures at r.0)))
    c.after_letters.ensures
