-- `size_crossing::cross_size` meets its contract, by what stands on the left. Assumes nothing.
use mathlib.Core.Path.{ap, sym, ◌∙◌}
use native.Mathlib.Omega.{arith}
use lib.ListN.{length}
use Rattle.shape.specs.Bytes.{side_of}
use Rattle.shape.proofs.Sides.{says_used, says_letter, says_field}
use Rattle.crossings.specs.Codes.{cross_lines}
use Rattle.size_crossing.proofs.cross_size.Goals as goal

pub returns-then-left-eq-USED : goal.returns-then-left-eq-USED
returns-then-left-eq-USED c =
    let a = c.args in
    let lines = ap (λ w. length (cross_lines a.crossing.l a.crossing.down a.crossing.here w a.left.code (side_of a.right.byte) a.right.code)) (says_used a.left.byte c.if-left-eq-USED.true) in
    (c.past_size.ensures.0 ∙ sym lines, c.past_size.ensures.1)

pub returns-then-left-lt-FIRST_PLACE : goal.returns-then-left-lt-FIRST_PLACE
returns-then-left-lt-FIRST_PLACE c =
    let a = c.args in
    let lines = ap (λ w. length (cross_lines a.crossing.l a.crossing.down a.crossing.here w a.left.code (side_of a.right.byte) a.right.code)) (says_letter a.left.byte c.if-left-lt-FIRST_PLACE.true) in
    (c.letter_size.ensures.0 ∙ sym lines, c.letter_size.ensures.1)

pub returns : goal.returns
returns c =
    let a = c.args in
    let lines = ap (λ w. length (cross_lines a.crossing.l a.crossing.down a.crossing.here w a.left.code (side_of a.right.byte) a.right.code)) (says_field a.left.byte (omega (arith, c.if-left-lt-FIRST_PLACE.false)) c.if-left-eq-USED.false) in
    (c.open_size.ensures.0 ∙ sym lines, c.open_size.ensures.1)
