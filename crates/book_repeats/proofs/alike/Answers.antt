-- `book_repeats::alike` meets its contract: the limits, then the symbols. Assumes nothing.
use mathlib.Core.Path.{sym, ap₂, ◌∙◌}
use Rattle.model.specs.Lists as lists
use Rattle.scan.proofs.Words.{same-slices}
use Rattle.book_repeats.specs.Repeats.{same_template}
use Rattle.book_repeats.proofs.alike.Goals as goal

pub returns-then-eq : goal.returns-then-eq
unfolding same_template
returns-then-eq c =
    let limits = c.eq.ensures ∙ same-slices c.limits.result.now c.limits-2.result.now ∙ ap₂ lists.same c.limits.ensures c.limits-2.ensures in
    c.eq-then-eq.ensures
    ∙ same-slices c.symbols.result.now c.symbols-then-eq.result.now
    ∙ ap₂ lists.same c.symbols.ensures c.symbols-then-eq.ensures
    ∙ sym (rw (sym limits ∙ c.if-eq.true))

pub returns-else-eq : goal.returns-else-eq
unfolding same_template
returns-else-eq c =
    let limits = c.eq.ensures ∙ same-slices c.limits.result.now c.limits-2.result.now ∙ ap₂ lists.same c.limits.ensures c.limits-2.ensures in
    c.if-eq.false ∙ sym (rw (sym limits ∙ c.if-eq.false))
