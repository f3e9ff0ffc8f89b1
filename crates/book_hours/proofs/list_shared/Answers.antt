-- `book_hours::list_shared` meets its contract: the table wants the pairs that share a minute, and of these the ones that clash are listed. Assumes nothing.
use mathlib.Core.Path.{sym, ap, subst, ◌∙◌}
use native.Mathlib.Omega.{arith}
use lib.ListN.{length}
use Rattle.book.specs.Book.{book_of}
use Rattle.schedule.specs.Schedule.{schedule_of, Admitted}
use Rattle.calls.specs.Calls.{listing, Decides}
use Rattle.calls.proofs.Comparing.{comparing_hours_accepted}
use Rattle.book_list.specs.Answer.{compared}
use Rattle.schedule_table.specs.Table.{Shows}
use Rattle.book_hours.proofs.Laws.{shown_sharing}
use Rattle.book_hours.proofs.list_shared.Goals as goal

pub put_table-requires : goal.put_table-requires
put_table-requires c =
    (subst (λ n. Admitted n c.args.hours.now) (sym c.count.ensures) c.requires.1, omega (arith, c.count.ensures, c.requires.0.1.of_templates), omega arith)

pub returns : goal.returns
returns c =
    let a = c.args in
    let b = a.list.now in
    let k = book_of a.book.now in
    let n = length k.templates in
    let table = c.put_table.new.table in
    let shown = subst (λ m. Shows m (schedule_of m a.hours.now) table) c.count.ensures c.put_table.ensures in
    subst (λ z. Decides z b (compared c.list_wanted.result) c.list_wanted.new.list)
    (ap (λ ps. listing ps (length b)) (shown_sharing k (schedule_of n a.hours.now) table shown) ∙ sym (comparing_hours_accepted a.book.now a.hours.now (length b) c.requires.0.0 c.requires.1.0))
    c.list_wanted.ensures
