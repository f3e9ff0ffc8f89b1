-- `book_parts::symbols` meets its contract: the symbols stand after the limits and their own count. Assumes nothing.
use mathlib.Core.Path.{◌≡◌, ap, ap₂, ◌∙◌}
use mathlib.Core.List.{List, map}
use Prim.Native.Nat.{ℕ, ◌+◌, ◌-◌}
use native.Mathlib.Omega.{arith}
use lib.ListN.{length, get_or, take, drop, length-map}
use Rattle.model.specs.Sheet.{symbol_byte}
use Rattle.model.proofs.Places.{holds-take}
use Rattle.book.specs.Book.{Template, template, book_of}
use Rattle.book.proofs.Places.{TemplateAt, this_template}
use Rattle.book_parts.proofs.symbols.Goals as goal

-- the two counts, as they were read
counted : (b : List ℕ) (at : ℕ) (t : Template) (fields count : ℕ) → TemplateAt b at t → fields ≡ get_or b at 0 → count ≡ get_or b (at + 1 + fields) 0
    → (fields ≡ length t.limits) × (count ≡ length t.symbols)
counted b at t fields count h e f =
    let n = e ∙ h.field_count in
    (n, f ∙ ap (λ v. get_or b (at + 1 + v) 0) n ∙ h.symbol_count)

pub bounds-book-at : goal.bounds-book-at
bounds-book-at c =
    let b = c.args.book.now in
    omega (arith, this_template b c.template_at-at.result c.args.i (book_of b) c.requires.1 c.template_at-at.ensures)

pub bounds-book-count_at : goal.bounds-book-count_at
bounds-book-count_at c =
    let b = c.args.book.now in
    omega (arith, this_template b c.template_at-at.result c.args.i (book_of b) c.requires.1 c.template_at-at.ensures)

pub slice_bounds-result-end : goal.slice_bounds-result-end
slice_bounds-result-end c =
    let b = c.args.book.now in
    let at = c.template_at-at.result in
    let t = this_template b at c.args.i (book_of b) c.requires.1 c.template_at-at.ensures in
    omega (arith, t, counted b at (template (book_of b) c.args.i) c.from.result c.from-count.result t c.from.ensures c.from-count.ensures)

pub returns : goal.returns
returns c =
    let b = c.args.book.now in
    let at = c.template_at-at.result in
    let u = template (book_of b) c.args.i in
    let t = this_template b at c.args.i (book_of b) c.requires.1 c.template_at-at.ensures in
    let k = counted b at u c.from.result c.from-count.result t c.from.ensures c.from-count.ensures in
    let n : at + 1 + c.from.result + 1 + c.from-count.result - (at + 1 + c.from.result + 1) ≡ length (map symbol_byte u.symbols) = omega (arith, k, length-map u.symbols symbol_byte) in
    ap₂ (λ m v. take m (drop (at + 1 + v + 1) b)) n k.0 ∙ holds-take (map symbol_byte u.symbols) t.holds_symbols
