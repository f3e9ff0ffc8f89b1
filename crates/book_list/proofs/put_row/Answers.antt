-- `book_list::put_row` meets its contract. The loop's invariant: the pairs of i and the templates before j have been written, and what is known is right. Assumes
-- nothing.
use mathlib.Core.Path.{◌≡◌, sym, subst}
use mathlib.Core.Bool.{Bool}
use mathlib.Core.List.{List}
use Prim.Native.Nat.{ℕ, ◌+◌, ◌-◌, ◌≤◌}
use native.Mathlib.Omega.{arith}
use lib.ListN.{length}
use Rattle.model.specs.Lists.{each, up_to, Puts}
use Rattle.model.proofs.Seams.{Written}
use Rattle.model.proofs.Pieces.{loop_none, loop_room, loop_next, loop_done}
use Rattle.book.specs.Book.{book_of}
use Rattle.book.specs.Pairs.{row_bytes}
use Rattle.book_list.specs.Wanted.{listed}
use Rattle.book_list.proofs.Laws.{piece, piece_is, row-pieces}
use Rattle.book_list.proofs.put_row.Goals as goal

-- there is room for all pieces
room : (test : ℕ → ℕ → Bool) (i n at : ℕ) (list : List ℕ) → at + length (row_bytes test n i) ≤ length list → at + length (each (up_to (n - (i + 1))) (piece test i)) ≤ length list
room test i n at list h = subst (λ w. at + length w ≤ length list) (row-pieces test i n) h

pub loop-j-init : goal.loop-j-init
loop-j-init c =
    let a = c.args in
    let z : 0 ≡ a.i + 1 - (a.i + 1) = omega arith in
    let p = piece (listed a.wanted.now (book_of a.book.now)) a.i in
    (subst (λ d. Written a.list.now a.at (each (up_to d) p) a.list.now a.at) z (loop_none p), c.requires.4)

pub put_pair-past-requires : goal.put_pair-past-requires
put_pair-past-requires c =
    let l = c.loop-j in
    let a = c.args in
    let t = listed a.wanted.now (book_of a.book.now) in
    let here = loop_room (piece t a.i) (a.n - (a.i + 1)) (room t a.i a.n a.at a.list.now c.requires.5) l.invariant.0 (omega arith) in
    (c.requires.0, omega arith, omega arith, c.requires.3, l.invariant.1, subst (λ w. l.past + length w ≤ length l.list) (piece_is t a.i l.j (omega arith)) here)

pub loop-j-preserved : goal.loop-j-preserved
loop-j-preserved c =
    let put = c.put_pair-past in
    let l = c.loop-j in
    let a = c.args in
    let t = listed a.wanted.now (book_of a.book.now) in
    let d : l.j - (a.i + 1) + 1 ≡ l.j + 1 - (a.i + 1) = omega arith in
    let piece-put = subst (λ w. Puts l.list l.past w put.new.list put.result) (sym (piece_is t a.i l.j (omega arith))) put.ensures.puts in
    let more = loop_next (piece t a.i) (a.n - (a.i + 1)) (room t a.i a.n a.at a.list.now c.requires.5) l.invariant.0 (omega arith) put.new.list put.result piece-put put.auto.list in
    (subst (λ m. Written a.list.now a.at (each (up_to m) (piece t a.i)) put.new.list put.result) d more, put.ensures.remembers)

pub returns-clause-puts : goal.returns-clause-puts
returns-clause-puts c =
    let l = c.loop-j in
    let a = c.args in
    let t = listed a.wanted.now (book_of a.book.now) in
    let e : l.j - (a.i + 1) ≡ a.n - (a.i + 1) = omega arith in
    subst (λ w. Puts a.list.now a.at w l.list l.past) (sym (row-pieces t a.i a.n)) (loop_done (piece t a.i) (a.n - (a.i + 1)) (room t a.i a.n a.at a.list.now c.requires.5) l.invariant.0 e)
