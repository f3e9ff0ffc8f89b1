-- `inequalities::making::occurrences` meets its contract. The loop's invariant: what was counted, and what is still to come, make the whole. Assumes nothing.
use mathlib.Core.Path.{sym, ◌∙◌}
use native.Mathlib.Omega.{arith}
use borrow.Author.Tests.{eq-eqb, ne_eqb}
use Rattle.inequalities.proofs.Steps.{occurrences_turn, occurrences_done}
use Rattle.inequalities.proofs.making.occurrences.Goals as goal
use Rattle.inequalities.proofs.making.occurrences.Goals.{then-slot-k, else-slot-k}

pub loop-symbol-preserved : goal.loop-symbol-preserved
loop-symbol-preserved c =
    let l = c.loop-symbol in
    let a = c.args in
    let found = c.slot.ensures in
    let turn = occurrences_turn a.template.now a.k l.symbol-index (omega arith) in
    elim c.if-slot-k.branch [
      | then-slot-k w ↦ let here = eq-eqb _ _ (sym found ∙ w.if-slot-k.true) in omega (arith, rw here at turn)
      | else-slot-k w ↦ let here = ne_eqb _ _ (λ e. w.if-slot-k.false (found ∙ e)) in omega (arith, rw here at turn)
    ]

pub returns : goal.returns
returns c =
    let l = c.loop-symbol in
    let a = c.args in
    let done = occurrences_done a.template.now a.k l.symbol-index (omega arith) in
    omega arith
