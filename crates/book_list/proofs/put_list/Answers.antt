-- `book_list::put_list` meets its contract. The loop's invariant: the rows of the first i templates have been written, and what is known is right. Assumes nothing.
use mathlib.Core.Path.{◌≡◌, sym, ap, subst}
use mathlib.Core.Bool.{Bool}
use mathlib.Core.List.{List}
use Prim.Native.Nat.{ℕ, ◌+◌, ◌≤◌}
use native.Mathlib.Omega.{arith}
use lib.ListN.{length}
use Rattle.model.specs.Lists.{each, up_to, Puts}
use Rattle.model.proofs.Pieces.{loop_none, loop_room, loop_next, loop_done}
use Rattle.book.specs.Book.{book_of}
use Rattle.book.specs.Pairs.{kept, list_bytes, row_bytes}
use Rattle.book.proofs.Listed.{list_rows}
use Rattle.book_list.specs.Wanted.{listed}
use Rattle.book_list.proofs.put_list.Goals as goal

-- there is room for all rows
room : (test : ℕ → ℕ → Bool) (n : ℕ) (list : List ℕ) → length (list_bytes (kept test n)) ≤ length list → 0 + length (each (up_to n) (row_bytes test n)) ≤ length list
room test n list h = let e = ap length (list_rows test n) in omega arith

pub loop-i-init : goal.loop-i-init
loop-i-init c =
    let k = book_of c.args.book.now in
    (loop_none (row_bytes (listed c.args.wanted.now k) (length k.templates)), c.requires.2)

pub put_row-past-requires : goal.put_row-past-requires
put_row-past-requires c =
    let l = c.loop-i in
    let k = book_of c.args.book.now in
    let t = listed c.args.wanted.now k in
    let m = length k.templates in
    let here = loop_room (row_bytes t m) m (room t m c.args.list.now c.requires.3) l.invariant.0 (omega (arith, c.count-n.ensures)) in
    (c.requires.0, c.count-n.ensures, c.loop-i-test.true, c.requires.1, l.invariant.1, subst (λ n. l.past + length (row_bytes t n l.i) ≤ length l.list) (sym c.count-n.ensures) here)

pub loop-i-preserved : goal.loop-i-preserved
loop-i-preserved c =
    let put = c.put_row-past in
    let l = c.loop-i in
    let k = book_of c.args.book.now in
    let t = listed c.args.wanted.now k in
    let m = length k.templates in
    let row_put = subst (λ n. Puts l.list l.past (row_bytes t n l.i) put.new.list put.result) c.count-n.ensures put.ensures.puts in
    (loop_next (row_bytes t m) m (room t m c.args.list.now c.requires.3) l.invariant.0 (omega (arith, c.count-n.ensures)) put.new.list put.result row_put put.auto.list, put.ensures.remembers)

pub returns : goal.returns
returns c =
    let l = c.loop-i in
    let k = book_of c.args.book.now in
    let t = listed c.args.wanted.now k in
    let m = length k.templates in
    let e : l.i ≡ m = omega (arith, c.count-n.ensures) in
    subst (λ w. Puts c.args.list.now 0 w l.list l.past) (sym (list_rows t m)) (loop_done (row_bytes t m) m (room t m c.args.list.now c.requires.3) l.invariant.0 e)
