-- `book_parts::count` meets its contract: the template count stands after the letters. Assumes nothing.
use mathlib.Core.Path.{ap, ◌∙◌}
use Prim.Native.Nat.{◌+◌}
use native.Mathlib.Omega.{arith}
use Rattle.model.specs.Sheet.{byte}
use Rattle.parts.proofs.Known.{lent_bytes}
use Rattle.book.proofs.Places.{letter-count-at, template-count-at, template-count-fits}
use Rattle.book_parts.proofs.count.Goals as goal

pub bounds-book-5 : goal.bounds-book-5
bounds-book-5 c =
    let b = c.args.book.now in
    omega (arith, template-count-fits b (lent_bytes b c.type_inv.book) c.requires)

pub bounds-book-from : goal.bounds-book-from
bounds-book-from c =
    let b = c.args.book.now in
    let y = lent_bytes b c.type_inv.book in
    omega (arith, letter-count-at b y c.requires, template-count-fits b y c.requires)

pub returns : goal.returns
returns c =
    let b = c.args.book.now in
    let y = lent_bytes b c.type_inv.book in
    c.from-2.ensures ∙ ap (λ n. byte b (6 + n)) (c.from.ensures ∙ letter-count-at b y c.requires) ∙ template-count-at b y c.requires
