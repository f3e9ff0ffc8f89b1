-- `numerals::read_number` meets its contract: by the piece's first byte, and by whether the rest has a value. Assumes nothing.
use mathlib.Core.Path.{◌≡◌, sym, ap, ◌∙◌}
use mathlib.Core.Logic.{⊎_elim}
use native.Mathlib.Omega.{arith}
use lib.ListN.{length, get_or}
use borrow.Author.Tests.{eqb-true, eqb-false}
use Rattle.model.proofs.Seams.{tail_lent}
use Rattle.numerals.proofs.Digits.{valued}
use Rattle.numerals.proofs.Numbers.{said_empty, said_no_minus, said_minus, said_nought, said_none, said_plus}
use Rattle.numerals.proofs.read_number.Goals as goal

pub returns-then-is_empty : goal.returns-then-is_empty
returns-then-is_empty c = said_empty c.args.piece.now (eqb-true _ 0 (sym c.if-is_empty.ensures))

pub returns-in_err-n : goal.returns-in_err-n
returns-in_err-n c =
    let p = c.args.piece.now in
    let is = c.value.ensures ∙ ap valued (tail_lent p 1) in
    let some = eqb-false (length p) 0 (sym c.if-is_empty.ensures) in
    rw c.from_residual.ensures (said_no_minus p (omega arith) c.if-piece-eq45.true c.value.result is (c.in_err-n.was {u = tt}))

pub returns-then-piece-eq45 : goal.returns-then-piece-eq45
returns-then-piece-eq45 c =
    let p = c.args.piece.now in
    let is = c.value.ensures ∙ ap valued (tail_lent p 1) in
    let some = eqb-false (length p) 0 (sym c.if-is_empty.ensures) in
    said_minus p (omega arith) c.if-piece-eq45.true c.value.result is c.in_ok-n.n (c.in_ok-n.was {u = tt})

pub returns-then-piece-eq1 : goal.returns-then-piece-eq1
returns-then-piece-eq1 c = said_nought c.args.piece.now (omega arith) c.if-piece-eq48.true

pub returns-in_err-n-2 : goal.returns-in_err-n-2
returns-in_err-n-2 c =
    let p = c.args.piece.now in
    let other : get_or p 0 0 ≡ 48 → length p ≡ 1 → ⊥ = ⊎_elim (λ w e l. w.1 l) (λ n e l. n e) c.else-piece-eq48.either in
    rw c.from_residual-in_err-n-2.ensures (said_none p c.if-piece-eq45.false other c.value-2.result c.value-2.ensures (c.in_err-n-2.was {u = tt}))

pub returns : goal.returns
returns c =
    let p = c.args.piece.now in
    let other : get_or p 0 0 ≡ 48 → length p ≡ 1 → ⊥ = ⊎_elim (λ w e l. w.1 l) (λ n e l. n e) c.else-piece-eq48.either in
    said_plus p c.if-piece-eq45.false other c.value-2.result c.value-2.ensures c.in_ok-n-2.n (c.in_ok-n-2.was {u = tt})
