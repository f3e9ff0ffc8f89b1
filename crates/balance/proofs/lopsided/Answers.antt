-- `balance::lopsided` meets its contract. The first loop's invariant: no field below f keeps the combination from telling. Assumes nothing.
use mathlib.Core.Path.{subst}
use native.Mathlib.Omega.{arith}
use lib.Arith.{lt_of_le-ne}
use lib.Dec.{eqb}
use borrow.Author.Tests.{eqb-true, eqb-false}
use Rattle.model.specs.Sheet.{sheet_of}
use Rattle.model.proofs.Lists.{by_test}
use Rattle.balance.specs.Balance.{Fair, Unfair}
use Rattle.balance.proofs.Table.{unfair_apart}
use Rattle.balance.proofs.lopsided.Goals as goal

pub loop-f-preserved : goal.loop-f-preserved
loop-f-preserved c k low high =
    let l = c.loop-f in
    by_test (eqb k l.f)
    (λ e. let same = eqb-true k l.f e in rw same (subst (Fair c.args.pairs) c.joined_surplus.ensures (c.bars.ensures c.if-bars.false)))
    (λ e. l.invariant k low (lt_of_le-ne (omega arith) (eqb-false k l.f e)))

pub returns-then-tells : goal.returns-then-tells
returns-then-tells c _ =
    let a = c.args in
    unfair_apart (sheet_of a.sheet.now) c.requires.0.1 a.table.now a.ways c.requires.1 a.pairs
    (λ k low high. c.loop-f.invariant k low (omega (arith, c.fields-end.ensures)))
    c.loop-a.a
    (omega (arith, c.letters-a-end.ensures))
    (subst (Unfair a.pairs) c.joined_surplus-in-loop-a.ensures (c.tells.ensures c.if-tells.true))
