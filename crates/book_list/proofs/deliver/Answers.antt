-- `book_list::deliver` meets its contract: the list is made first, and handed over if there is room for it. Assumes nothing.
use mathlib.Core.Path.{◌≡◌, ap, ◌∙◌}
use mathlib.Core.List.{◌++◌}
use Prim.Native.Nat.{◌/◌}
use native.Mathlib.Omega.{arith}
use lib.ListN.{length, take, drop}
use Rattle.model.proofs.Seams.{front_is, placed_front}
use Rattle.book.specs.Book.{book_of}
use Rattle.book.specs.Pairs.{kept, list_bytes}
use Rattle.book.proofs.Listed.{list_size, kept-few}
use Rattle.calls.specs.Calls.{listing}
use Rattle.calls.proofs.Comparing.{listing-short, decides_refused, decides_listed}
use Rattle.book_list.specs.Wanted.{listed}
use Rattle.book_list.proofs.deliver.Goals as goal

pub put_list-n-requires : goal.put_list-n-requires
put_list-n-requires c =
    let k = book_of c.args.book.now in
    let t = listed c.args.wanted.now k in
    let n = length k.templates in
    (c.requires.0, c.requires.1, c.requires.2, omega (arith, list_size (kept t n), kept-few t n c.requires.0.1.of_templates.1, c.requires.3))

pub returns-then-list-n : goal.returns-then-list-n
returns-then-list-n c =
    let k = book_of c.args.book.now in
    let ps = kept (listed c.args.wanted.now k) (length k.templates) in
    let b = c.args.list.now in
    decides_refused (listing ps (length b)) b 42 (listing-short ps (length b) (omega (arith, c.put_list-n.ensures.0, c.if-list-n.true)))

pub put-requires : goal.put-requires
put-requires c =
    let k = book_of c.args.book.now in
    let ps = kept (listed c.args.wanted.now k) (length k.templates) in
    let e = ap length (front_is c.args.own.now (list_bytes ps) c.put_list-n.new.list c.put_list-n.result c.put_list-n.ensures) in
    omega (arith, c.put_list-n.ensures.0, c.if-list-n.false)

pub returns : goal.returns
returns c =
    let k = book_of c.args.book.now in
    let ps = kept (listed c.args.wanted.now k) (length k.templates) in
    let b = c.args.list.now in
    let count : c.put_list-n.result / 2 ≡ length ps = omega (arith, c.put_list-n.ensures.0, list_size ps) in
    let own = take c.put_list-n.result c.put_list-n.new.list in
    let is = front_is c.args.own.now (list_bytes ps) c.put_list-n.new.list c.put_list-n.result c.put_list-n.ensures in
    decides_listed ps b (omega (arith, c.put_list-n.ensures.0, c.if-list-n.false)) c.put.new.buf (c.put_list-n.result / 2) count
    (c.put.ensures.1 ∙ placed_front b own ∙ ap (λ w. w ++ drop (length w) b) is)
