-- `book_read::read` meets its contract: the mark and the version, the walk, the end. Assumes nothing.
use mathlib.Core.Path.{◌≡◌, sym, subst, ap, ◌∙◌}
use lib.ListN.{drop}
use Rattle.std.specs.Option.{ok_or}
use Rattle.std.proofs.lemmas.Result.{err_from_is_err_and}
use Rattle.parts.proofs.Known.{lent_bytes}
use Rattle.book.specs.Book.{body, mark, refused}
use Rattle.book.proofs.Opening.{opens-long}
use Rattle.book.proofs.Reading.{accepted-admitted}
use Rattle.book.proofs.Rests.{read_shut, read_stops, read_over, read_done}
use Rattle.book_read.specs.Walk.{Came, number_of}
use Rattle.book_read.specs.declared.Refusal.TheVariants.{Book}
use Rattle.book_read.proofs.read.Goals as goal

pub returns-then-not-opens : goal.returns-then-not-opens
returns-then-not-opens c = read_shut c.args.book.now (sym c.if-not-opens.ensures)

pub walked-requires : goal.walked-requires
walked-requires c = opens-long mark c.args.book.now (sym c.if-not-opens.ensures)

pub returns-in_err-end : goal.returns-in_err-end
returns-in_err-end c =
    let b = c.args.book.now in
    let p = err_from_is_err_and c.from_residual.result c.from_residual.ensures.1 in
    let h = c.in_err-end.ensures in
    let f : c.in_err-end.field-0.0 ≡ Book = let e = h.value ∙ ap (λ o. ok_or o Book) h.ok_part in cc in
    let n = subst (Came b (body (drop 5 b))) h.ok_part c.walked.ensures in
    rw (p.1, p.2) (read_stops b (sym c.if-not-opens.ensures) n.1 ∙ ap (λ x. refused (number_of x)) (sym f))

pub returns-then-end-book : goal.returns-then-end-book
returns-then-end-book c =
    let b = c.args.book.now in
    let k = subst (Came b (body (drop 5 b))) c.in_ok-end.ensures.ok_part c.walked.ensures in
    read_over b (sym c.if-not-opens.ensures) c.in_ok-end.end k.0 c.if-end-book.true

pub returns : goal.returns
returns c =
    let b = c.args.book.now in
    let k = subst (Came b (body (drop 5 b))) c.in_ok-end.ensures.ok_part c.walked.ensures in
    accepted-admitted b (lent_bytes b c.type_inv.book) (read_done b (sym c.if-not-opens.ensures) c.in_ok-end.end k.0 c.if-end-book.false).1
