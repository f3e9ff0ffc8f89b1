-- `book_list::list_all` meets its contract: where all pairs are wanted, those that clash are listed. Assumes nothing.
use mathlib.Core.Path.{sym, ap, subst, ◌∙◌}
use lib.ListN.{length}
use Rattle.book.specs.Book.{book_of}
use Rattle.calls.specs.Calls.{listing, Decides}
use Rattle.calls.proofs.Comparing.{comparing-accepted}
use Rattle.book_list.specs.Answer.{compared}
use Rattle.book_list.proofs.Laws.{all_wanted}
use Rattle.book_list.proofs.list_all.Goals as goal

pub returns : goal.returns
returns c =
    let done = c.list_wanted in
    let b = c.args.list.now in
    let k = book_of c.args.book.now in
    subst (λ a. Decides a b (compared done.result) done.new.list)
    (ap (λ ps. listing ps (length b)) (all_wanted k c.requires.1.of_templates.1) ∙ sym (comparing-accepted c.args.book.now (length b) c.requires.0))
    done.ensures
