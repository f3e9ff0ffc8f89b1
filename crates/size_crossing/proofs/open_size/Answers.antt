-- `size_crossing::open_size` meets its contract, by what stands on the right. Assumes nothing.
use mathlib.Core.Path.{◌≡◌, ap, sym, subst, ◌∙◌}
use Prim.Native.Nat.{ℕ, ◌<◌}
use native.Mathlib.Omega.{arith}
use lib.ListN.{length}
use Rattle.shape.proofs.Sides.{says_used, says_letter, says_field}
use Rattle.formula.specs.Kind.{at_letter, SideIn}
use Rattle.shape.specs.Bytes.{side_of}
use Rattle.crossings.specs.Codes.{open_lines}
use Rattle.size_crossing.proofs.Laws.{open_used, open_letter, open_field_lem}
use Rattle.size_crossing.proofs.open_size.Goals as goal

-- a letter on the right is one of l
below : (l v n : ℕ) → n ≡ v → v < 8 → SideIn l (side_of v) → n < l
below l v n is letter side =
    let inside = subst (SideIn l) (says_letter v letter) side in
    omega arith

pub returns-then-right-eq-USED : goal.returns-then-right-eq-USED
returns-then-right-eq-USED c =
    let a = c.args in
    let lines = ap (λ w. length (open_lines a.crossing.l a.crossing.down a.crossing.here a.x w a.right.code)) (says_used a.right.byte c.if-right-eq-USED.true) in (
      omega (arith, open_used a.crossing.l a.crossing.down a.crossing.here a.right.code a.x, c.literal_size-line.ensures.0, c.literal_size-blank.ensures.0, c.literal_size.ensures.0, c.literal_size-2.ensures.0),
      omega (arith, c.literal_size-line.ensures.1, c.literal_size-blank.ensures.1, c.literal_size.ensures.1, c.literal_size-2.ensures.1),
    )

pub overflow_sub-crossing : goal.overflow_sub-crossing
overflow_sub-crossing c = omega (arith, below c.args.crossing.l c.args.right.byte c.from-n.result c.from-n.ensures c.if-right-lt-FIRST_PLACE.true c.requires.1)

pub overflow_sub-crossing-then-right-lt-FIRST_PLACE : goal.overflow_sub-crossing-then-right-lt-FIRST_PLACE
overflow_sub-crossing-then-right-lt-FIRST_PLACE c = omega (arith, below c.args.crossing.l c.args.right.byte c.from-n.result c.from-n.ensures c.if-right-lt-FIRST_PLACE.true c.requires.1)

pub returns-then-right-lt-FIRST_PLACE : goal.returns-then-right-lt-FIRST_PLACE
returns-then-right-lt-FIRST_PLACE c =
    let a = c.args in
    let n = c.from-n.ensures in
    let lines = ap (λ w. length (open_lines a.crossing.l a.crossing.down a.crossing.here a.x w a.right.code)) (says_letter a.right.byte c.if-right-lt-FIRST_PLACE.true ∙ ap at_letter (sym n)) in (
      omega (arith, open_letter a.crossing.l a.crossing.down a.crossing.here a.right.code a.x c.from-n.result, c.literal_size-line.ensures.0, c.literal_size-blank.ensures.0, c.literal_size.ensures.0, c.literal_size-2.ensures.0, c.literal_size-past_both.ensures.0, c.unlike_size-e.ensures.0, c.unlike_size.ensures.0),
      omega (arith, below c.args.crossing.l c.args.right.byte c.from-n.result c.from-n.ensures c.if-right-lt-FIRST_PLACE.true c.requires.1, c.requires.0.letters, c.literal_size-line.ensures.1, c.literal_size-blank.ensures.1, c.literal_size.ensures.1, c.literal_size-2.ensures.1, c.literal_size-past_both.ensures.1, c.unlike_size-e.ensures.1, c.unlike_size.ensures.1),
    )

pub matches_size-requires : goal.matches_size-requires
matches_size-requires c =
    let p = c.requires in
    (p.0.letters, p.0.at_here, p.0.at_left, p.0.at_right, p.2 (says_field c.args.right.byte (omega (arith, c.if-right-lt-FIRST_PLACE.false)) c.if-right-eq-USED.false))

pub returns : goal.returns
returns c =
    let a = c.args in
    let lines = ap (λ w. length (open_lines a.crossing.l a.crossing.down a.crossing.here a.x w a.right.code)) (says_field c.args.right.byte (omega (arith, c.if-right-lt-FIRST_PLACE.false)) c.if-right-eq-USED.false) in (
      omega (arith, open_field_lem a.crossing.l a.crossing.down a.crossing.here a.right.code a.x, c.literal_size-line.ensures.0, c.literal_size-blank.ensures.0, c.literal_size.ensures.0, c.literal_size-2.ensures.0, c.literal_size-past_both.ensures.0, c.literal_size-3.ensures.0, c.literal_size-4.ensures.0, c.literal_size-5.ensures.0, c.matches_size.ensures.0),
      omega (arith, c.requires.0.letters, c.literal_size-line.ensures.1, c.literal_size-blank.ensures.1, c.literal_size.ensures.1, c.literal_size-2.ensures.1, c.literal_size-past_both.ensures.1, c.literal_size-3.ensures.1, c.literal_size-4.ensures.1, c.literal_size-5.ensures.1, c.matches_size.ensures.1),
    )
