-- `book_read::after_letters` meets its contract: the template count, then the templates. Assumes nothing.
use mathlib.Core.Path.{sym, ◌∙◌}
use Prim.Native.Nat.{◌+◌}
use lib.ListN.{drop}
use Rattle.model.specs.Sheet.{times}
use Rattle.book.specs.Book.{a_template, some_templates}
use Rattle.book.proofs.Rests.{templates-none, templates-left}
use Rattle.book_read.proofs.Walks.{came_same, first-left}
use Rattle.book_read.proofs.after_letters.Goals as goal

pub returns-in_err-n : goal.returns-in_err-n
returns-in_err-n c =
    let s = c.args in
    let n = c.in_err-n.ensures in
    rw c.from_residual.ensures (n.0, templates-none s.letters (drop s.at s.book.now) n.1)

pub returns : goal.returns
returns c =
    let s = c.args in
    let b = s.book.now in
    let xs = drop s.at b in
    let ys = drop (s.at + 1) b in
    let n = c.from.result in
    let k = c.in_ok-n.ensures in
    came_same b (times n (a_template s.letters) ys) (some_templates s.letters xs) c.templates.result
    (sym (templates-left s.letters xs n ys (c.from.ensures ∙ k.2 ∙ sym (first-left b s.at)) k.0)) c.templates.ensures
