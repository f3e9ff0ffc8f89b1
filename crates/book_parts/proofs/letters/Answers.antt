-- `book_parts::letters` meets its contract: the letters stand after their count. Assumes nothing.
use mathlib.Core.Path.{◌≡◌, ap, ◌∙◌}
use Prim.Native.Nat.{◌+◌, ◌-◌}
use native.Mathlib.Omega.{arith}
use lib.ListN.{length, take, drop}
use Rattle.model.proofs.Places.{holds-take}
use Rattle.parts.proofs.Known.{lent_bytes}
use Rattle.book.specs.Book.{book_of}
use Rattle.book.proofs.Places.{letter-count-at, holds-letters, template-count-fits}
use Rattle.book_parts.proofs.letters.Goals as goal

pub bounds-book-5 : goal.bounds-book-5
bounds-book-5 c =
    let b = c.args.book.now in
    omega (arith, template-count-fits b (lent_bytes b c.type_inv.book) c.requires)

pub slice_bounds-result-end : goal.slice_bounds-result-end
slice_bounds-result-end c =
    let b = c.args.book.now in
    let y = lent_bytes b c.type_inv.book in
    omega (arith, letter-count-at b y c.requires, template-count-fits b y c.requires)

pub returns : goal.returns
returns c =
    let b = c.args.book.now in
    let y = lent_bytes b c.type_inv.book in
    let n : 6 + c.from.result - 6 ≡ length (book_of b).letters = omega (arith, letter-count-at b y c.requires) in
    ap (λ m. take m (drop 6 b)) n ∙ holds-take (book_of b).letters (holds-letters b y c.requires)
