-- `book_parts::limits` meets its contract: the limits stand after their count. Assumes nothing.
use mathlib.Core.Path.{◌≡◌, ap, ◌∙◌}
use Prim.Native.Nat.{◌+◌, ◌-◌}
use native.Mathlib.Omega.{arith}
use lib.ListN.{length, take, drop}
use Rattle.model.proofs.Places.{holds-take}
use Rattle.book.specs.Book.{template, book_of}
use Rattle.book.proofs.Places.{this_template}
use Rattle.book_parts.proofs.limits.Goals as goal

pub bounds-book-at : goal.bounds-book-at
bounds-book-at c =
    let b = c.args.book.now in
    omega (arith, this_template b c.template_at-at.result c.args.i (book_of b) c.requires.1 c.template_at-at.ensures)

pub slice_bounds-result-end : goal.slice_bounds-result-end
slice_bounds-result-end c =
    let b = c.args.book.now in
    omega (arith, this_template b c.template_at-at.result c.args.i (book_of b) c.requires.1 c.template_at-at.ensures)

pub returns : goal.returns
returns c =
    let b = c.args.book.now in
    let at = c.template_at-at.result in
    let t = this_template b at c.args.i (book_of b) c.requires.1 c.template_at-at.ensures in
    let n : at + 1 + c.from.result - (at + 1) ≡ length (template (book_of b) c.args.i).limits = omega arith in
    ap (λ m. take m (drop (at + 1) b)) n ∙ holds-take (template (book_of b) c.args.i).limits t.holds_limits
