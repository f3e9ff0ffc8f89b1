-- `book_read::templates` meets its contract. The loop's invariant: the templates left, from here on, leave what all of them leave. Assumes nothing.
use mathlib.Core.Path.{refl, ◌∙◌}
use native.Mathlib.Omega.{arith}
use lib.ListN.{drop}
use Rattle.model.proofs.Rests.{times-rest, times_starts, times_goes, times_stops, times_done}
use Rattle.book.specs.Book.{a_template}
use Rattle.book_read.proofs.templates.Goals as goal
use Rattle.book_read.proofs.templates.Invariants.{one}

pub loop-init : goal.loop-init
loop-init c =
    let a = c.args in
    let xs = drop a.start a.book.now in
    (c.requires, times-rest (a_template a.letters) a.n xs ∙ times_starts (one a.letters) a.n 0 xs refl)

pub template-requires : goal.template-requires
template-requires c = c.loop.invariant.0

pub returns-in_err-at : goal.returns-in_err-at
returns-in_err-at c =
    let l = c.loop in
    let a = c.args in
    let n = c.in_err-at.ensures in
    rw c.from_residual.ensures (n.0, l.invariant.1 ∙ times_stops (one a.letters) a.n l.counter (drop l.at a.book.now) c.loop-test.true n.1)

pub loop-preserved : goal.loop-preserved
loop-preserved c =
    let l = c.loop in
    let a = c.args in
    let b = a.book.now in
    let n = c.in_ok-at.ensures in
    (n.1, l.invariant.1 ∙ times_goes (one a.letters) a.n l.counter (drop l.at b) c.loop-test.true (drop c.in_ok-at.at b) n.0)

pub returns : goal.returns
returns c =
    let l = c.loop in
    let a = c.args in
    (l.invariant.1 ∙ times_done (one a.letters) a.n l.counter (drop l.at a.book.now) (omega arith), l.invariant.0)
