-- `size_crossing::past_size` meets its contract, by what stands on the right. Assumes nothing.
use mathlib.Core.Path.{ap}
use Prim.Native.Nat.{◌+◌}
use native.Mathlib.Omega.{arith}
use lib.ListN.{length}
use Rattle.shape.proofs.Sides.{says_used, says_letter, says_field}
use Rattle.dimacs.proofs.Sizes.{line_one}
use Rattle.crossings.specs.Codes.{past_lines}
use Rattle.size_crossing.proofs.Laws.{past-field}
use Rattle.size_crossing.proofs.past_size.Goals as goal

pub returns-then-right-eq-USED : goal.returns-then-right-eq-USED
returns-then-right-eq-USED c =
    let a = c.args in
    let lines = ap (λ w. length (past_lines a.crossing.l a.crossing.here w a.right.code)) (says_used a.right.byte c.if-right-eq-USED.true) in
    (omega arith, omega arith)

pub returns-then-right-lt-FIRST_PLACE : goal.returns-then-right-lt-FIRST_PLACE
returns-then-right-lt-FIRST_PLACE c =
    let a = c.args in
    let lines = ap (λ w. length (past_lines a.crossing.l a.crossing.here w a.right.code)) (says_letter a.right.byte c.if-right-lt-FIRST_PLACE.true) in
    (omega (arith, c.literal_size-line.ensures.0, line_one (a.crossing.here + 1)), omega (arith, c.literal_size-line.ensures.1))

pub returns : goal.returns
returns c =
    let a = c.args in
    let lines = ap (λ w. length (past_lines a.crossing.l a.crossing.here w a.right.code)) (says_field a.right.byte (omega (arith, c.if-right-lt-FIRST_PLACE.false)) c.if-right-eq-USED.false) in (
      omega (arith, past-field a.crossing.l 0 a.crossing.here a.right.code, c.literal_size-line.ensures.0, c.literal_size.ensures.0, c.literal_size-2.ensures.0, c.literal_size-3.ensures.0),
      omega (arith, c.literal_size-line.ensures.1, c.literal_size.ensures.1, c.literal_size-2.ensures.1, c.literal_size-3.ensures.1),
    )
