-- `size_crossing::letter_size` meets its contract, by what stands on the right. Assumes nothing.
use mathlib.Core.Path.{ap, sym, ◌∙◌}
use Prim.Native.Nat.{◌+◌, ◌*◌}
use native.Mathlib.Omega.{arith}
use lib.ListN.{length}
use Rattle.formula.specs.Kind.{at_letter}
use Rattle.shape.proofs.Sides.{says_used, says_letter, says_field}
use Rattle.dimacs.specs.Codes.{code_size}
use Rattle.dimacs.proofs.Sizes.{line_one}
use Rattle.crossings.specs.Codes.{letter_lines}
use Rattle.size_crossing.proofs.Laws.{letter-same, letter_other, letter-field}
use Rattle.size_crossing.proofs.letter_size.Goals as goal

pub returns-then-right-eq-USED : goal.returns-then-right-eq-USED
returns-then-right-eq-USED c =
    let a = c.args in
    let lines = ap (λ w. length (letter_lines a.crossing.l a.crossing.down a.crossing.here a.a w a.right.code)) (says_used a.right.byte c.if-right-eq-USED.true) in
    (omega (arith, c.literal_size-line.ensures.0, line_one (a.crossing.here + 1)), omega (arith, c.literal_size-line.ensures.1))

pub returns-then-a-right : goal.returns-then-a-right
returns-then-a-right c =
    let a = c.args in
    let lines = ap (λ w. length (letter_lines a.crossing.l a.crossing.down a.crossing.here a.a w a.right.code)) (says_letter a.right.byte c.if-right-lt-FIRST_PLACE.true ∙ ap at_letter (sym c.if-a-right.true)) in
    (omega (arith, letter-same a.crossing.l a.crossing.down a.crossing.here a.right.code a.a, c.literal_size-line.ensures.0, c.literal_size-past_both.ensures.0), omega (arith, c.literal_size-line.ensures.1, c.literal_size-past_both.ensures.1))

pub returns-then-right-lt-FIRST_PLACE : goal.returns-then-right-lt-FIRST_PLACE
returns-then-right-lt-FIRST_PLACE c =
    let a = c.args in
    let lines = ap (λ w. length (letter_lines a.crossing.l a.crossing.down a.crossing.here a.a w a.right.code)) (says_letter a.right.byte c.if-right-lt-FIRST_PLACE.true) in
    (omega (arith, letter_other a.crossing.l a.crossing.down a.crossing.here a.right.code a.a a.right.byte c.if-a-right.false, c.literal_size-line.ensures.0, c.literal_size-past_both.ensures.0), omega (arith, c.literal_size-line.ensures.1, c.literal_size-past_both.ensures.1))

pub returns : goal.returns
returns c =
    let a = c.args in
    let lines = ap (λ w. length (letter_lines a.crossing.l a.crossing.down a.crossing.here a.a w a.right.code)) (says_field a.right.byte (omega (arith, c.if-right-lt-FIRST_PLACE.false)) c.if-right-eq-USED.false) in
    let letter = ap (λ n. code_size (a.right.code + 2 * n)) c.from.ensures in (
      omega (arith, letter-field a.crossing.l a.crossing.down a.crossing.here a.right.code a.a, c.literal_size-line.ensures.0, c.literal_size-past_both.ensures.0, c.literal_size-blank.ensures.0, c.literal_size.ensures.0, c.literal_size-2.ensures.0, c.literal_size-3.ensures.0),
      omega (arith, c.literal_size-line.ensures.1, c.literal_size-past_both.ensures.1, c.literal_size-blank.ensures.1, c.literal_size.ensures.1, c.literal_size-2.ensures.1, c.literal_size-3.ensures.1),
    )
