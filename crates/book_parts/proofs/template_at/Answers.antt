-- `book_parts::template_at` meets its contract. The loop's invariant: at the offset stand the templates from k on. Assumes nothing.
use mathlib.Core.Path.{◌≡◌, ap, subst, ◌∙◌}
use Prim.Native.Nat.{◌+◌, ◌<◌, ◌≤◌}
use native.Mathlib.Omega.{arith}
use lib.ListN.{length, get_or, drop}
use Rattle.model.specs.Lists.{each, Holds}
use Rattle.model.proofs.Places.{holds-from}
use Rattle.parts.proofs.Known.{lent_bytes}
use Rattle.book.specs.Book.{template, encode_template, book_of}
use Rattle.book.proofs.Places.{TemplateAt, letter-count-at, template-count-fits, holds-templates, this_template, next_template}
use Rattle.book_parts.proofs.template_at.Goals.{In-loop, After-from-symbols}
use Rattle.book_parts.proofs.template_at.Goals as goal

pub bounds-book-5 : goal.bounds-book-5
bounds-book-5 c =
    let b = c.args.book.now in
    omega (arith, template-count-fits b (lent_bytes b c.type_inv.book) c.requires.0)

pub loop-init : goal.loop-init
loop-init c =
    let b = c.args.book.now in
    let y = lent_bytes b c.type_inv.book in
    let n : 6 + length (book_of b).letters + 1 ≡ 6 + c.from.result + 1 = omega (arith, letter-count-at b y c.requires.0) in
    holds-from n (holds-templates b y c.requires.0)

-- the template at hand, in a turn of the loop
this : (c : In-loop) →
    let l = c.loop in
    let b = c.args.book.now in
    TemplateAt b l.at (template (book_of b) l.counter)
this c =
    let l = c.loop in
    let b = c.args.book.now in
    let more : l.counter < length (book_of b).templates = omega arith in
    this_template b l.at l.counter (book_of b) more l.invariant

pub bounds-book-at : goal.bounds-book-at
bounds-book-at c = omega (arith, this (goal.at.bounds-book-at c).In-loop)

pub overflow_add-at-in-loop : goal.overflow_add-at-in-loop
overflow_add-at-in-loop c = omega (arith, this (goal.at.overflow_add-at-in-loop c).In-loop)

pub overflow_add-at-in-loop-2 : goal.overflow_add-at-in-loop-2
overflow_add-at-in-loop-2 c = omega (arith, this (goal.at.overflow_add-at-in-loop-2 c).In-loop)

pub bounds-book-at-in-loop : goal.bounds-book-at-in-loop
bounds-book-at-in-loop c = omega (arith, this (goal.at.bounds-book-at-in-loop c).In-loop)

-- how far the template reaches
reach : (c : After-from-symbols) →
    let l = c.loop in
    let b = c.args.book.now in
    let t = template (book_of b) l.counter in
    (c.from-fields.result ≡ length t.limits) × (c.from-symbols.result ≡ length t.symbols) × (l.at + 1 + length t.limits + 1 + length t.symbols ≤ length b)
reach c =
    let t = this (goal.at.After-from-symbols c).In-loop in
    let n = c.from-fields.ensures ∙ t.field_count in
    let b = c.args.book.now in
    (n, c.from-symbols.ensures ∙ ap (λ v. get_or b (c.loop.at + 1 + v) 0) n ∙ t.symbol_count, t.fits)

pub overflow_add-at-in-loop-6 : goal.overflow_add-at-in-loop-6
overflow_add-at-in-loop-6 c = omega (arith, reach c)

pub loop-preserved : goal.loop-preserved
loop-preserved c =
    let l = c.loop in
    let b = c.args.book.now in
    let t = template (book_of b) l.counter in
    let more : l.counter < length (book_of b).templates = omega arith in
    let e : l.at + 1 + length t.limits + 1 + length t.symbols ≡ l.at + (1 + c.from-fields.result + 1 + c.from-symbols.result) = omega (arith, reach c) in
    holds-from e (next_template b l.at l.counter (book_of b) more l.invariant)

pub returns : goal.returns
returns c =
    let l = c.loop in
    let a = c.args in
    let e : l.counter ≡ a.i = omega arith in
    subst (λ k. Holds a.book.now l.at (each (drop k (book_of a.book.now).templates) encode_template)) e l.invariant
