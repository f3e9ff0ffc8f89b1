-- `book_list::put_pair` meets its contract: two bytes where the templates are wanted and clash, and else nothing. Assumes nothing.
use mathlib.Core.Path.{sym, subst, ◌∙◌}
use mathlib.Core.List.{[], ◌∷◌}
use Prim.Native.Nat.{◌+◌, ◌≤◌}
use lib.ListN.{length}
use Rattle.model.specs.Lists.{when, Puts}
use Rattle.book.specs.Book.{book_of}
use Rattle.book_list.specs.Wanted.{listed}
use Rattle.book_list.proofs.Laws.{pair_none, not_wanted, wanted_clash}
use Rattle.book_list.proofs.put_pair.Goals.{else-wanted-i-ne0-via-then-wanted-i-ne0+else-settled, else-wanted-i-ne0-via-else-wanted-i-ne0}
use Rattle.book_list.proofs.put_pair.Goals as goal

pub put-requires : goal.put-requires
put-requires c =
    let a = c.args in
    let clashes = wanted_clash a.wanted.now (book_of a.book.now) a.i a.j c.if-wanted-i-ne0.true ∙ sym c.if-settled.ensures.value in
    subst (λ t. a.at + length (when t (a.i ∷ a.j ∷ [])) ≤ length a.list.now) clashes c.requires.5

pub returns-then-settled-clause-puts : goal.returns-then-settled-clause-puts
returns-then-settled-clause-puts c =
    let a = c.args in
    let clashes = wanted_clash a.wanted.now (book_of a.book.now) a.i a.j c.if-wanted-i-ne0.true ∙ sym c.if-settled.ensures.value in
    subst (λ t. Puts a.list.now a.at (when t (a.i ∷ a.j ∷ [])) c.put.new.buf c.put.result) (sym clashes) c.put.ensures

pub returns-else-wanted-i-ne0-clause-puts : goal.returns-else-wanted-i-ne0-clause-puts
returns-else-wanted-i-ne0-clause-puts c =
    let a = c.args in
    let k = book_of a.book.now in
    elim c.else-wanted-i-ne0.branch [
      | else-wanted-i-ne0-via-then-wanted-i-ne0+else-settled w ↦
          pair_none a.list.now a.at a.i a.j (listed a.wanted.now k a.i a.j) (wanted_clash a.wanted.now k a.i a.j w.if-wanted-i-ne0.true ∙ sym w.settled.ensures.value ∙ w.if-settled.false)
      | else-wanted-i-ne0-via-else-wanted-i-ne0 w ↦ pair_none a.list.now a.at a.i a.j (listed a.wanted.now k a.i a.j) (not_wanted a.wanted.now k a.i a.j w.if-wanted-i-ne0.false)
    ]
