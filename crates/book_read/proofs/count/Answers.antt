-- `book_read::count` meets its contract: the byte that stands there is tested. Assumes nothing.
use mathlib.Core.Path.{◌≡◌, sym, ap, ◌∙◌}
use mathlib.Core.Bool.{Bool, true, false}
use mathlib.Core.List.{List}
use Prim.Native.Nat.{ℕ, suc, ◌<◌}
use native.Mathlib.Numerals.{add-one}
use native.Mathlib.Omega.{arith}
use lib.ListN.{length, drop, get_or, drop_of_length-le}
use lib.Seq.{drop-cons}
use Rattle.std.specs.Bool.{then_some}
use Rattle.model.specs.Lists.{between}
use Rattle.scan.proofs.Words.{range-between}
use Rattle.book.specs.Book.{count}
use Rattle.book.proofs.Rests.{count-lacks, count_stops, count_goes}
use Rattle.book_read.specs.Walk.{Counted}
use Rattle.book_read.proofs.count.Goals as goal

pub returns-in_err-n : goal.returns-in_err-n
returns-in_err-n c =
    let a = c.args in
    let h = c.in_err-n.ensures.lookup in
    rw c.from_residual.ensures (41, count-lacks a.low a.high (drop a.at a.book.now) (drop_of_length-le a.book.now (omega arith)))

-- by the outcome of the test
tested : (b : List ℕ) (low high k n : ℕ) (t : Bool) → k < length b → n ≡ get_or b k 0 → t ≡ between low high (get_or b k 0) → Counted b (count low high (drop k b)) k (then_some t n)
tested b low high k n true inside e h =
    (rw add-one (count_goes low high (drop k b) (get_or b k 0) (drop (suc k) b) (drop-cons b k 0 inside) (sym h)), inside, e)
tested b low high k n false inside e h =
    (41, count_stops low high (drop k b) (get_or b k 0) (drop (suc k) b) (drop-cons b k 0 inside) (sym h))

pub returns : goal.returns
returns c =
    let a = c.args in
    let b = a.book.now in
    let h = c.in_ok-n.ensures.lookup in
    let n = c.in_ok-n.field-0.now in
    let is : n ≡ get_or b a.at 0 = h.3.1 0 in
    rw c.then_some.ensures
    (tested b a.low a.high a.at n c.contains.result (omega arith) is
    (c.contains.ensures.value ∙ range-between c.new.result a.low a.high n c.new.ensures.start c.new.ensures.end c.new.ensures.exhausted ∙ ap (between a.low a.high) is))
