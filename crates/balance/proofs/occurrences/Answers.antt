-- `balance::occurrences` meets its contract. The loop's invariant: what was counted, and what is still to come, make the whole. Assumes nothing.
use native.Mathlib.Omega.{arith}
use borrow.Author.Tests.{eq-eqb, ne_eqb}
use Rattle.balance.proofs.Counts.{count_turn, count_done}
use Rattle.balance.proofs.occurrences.Goals as goal
use Rattle.balance.proofs.occurrences.Goals.{then-x-symbol, else-x-symbol}

pub loop-x-preserved : goal.loop-x-preserved
loop-x-preserved c =
    let l = c.loop-x in
    let a = c.args in
    let turn = count_turn a.symbol a.template.now l.x-index (omega arith) in
    elim c.if-x-symbol.branch [
      | then-x-symbol w ↦ let here = eq-eqb _ _ w.if-x-symbol.true in omega (arith, rw here at turn)
      | else-x-symbol w ↦ let here = ne_eqb _ _ w.if-x-symbol.false in omega (arith, rw here at turn)
    ]

pub returns : goal.returns
returns c =
    let l = c.loop-x in
    let a = c.args in
    let done = count_done a.symbol a.template.now l.x-index (omega arith) in
    omega arith
