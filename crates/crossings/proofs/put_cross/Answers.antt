-- `crossings::put_cross` meets its contract, by what stands on the left. Assumes nothing.
use mathlib.Core.Path.{◌≡◌, sym, subst}
use mathlib.Core.List.{List}
use Prim.Native.Nat.{ℕ, ◌+◌, ◌≤◌}
use native.Mathlib.Omega.{arith}
use lib.ListN.{length}
use Rattle.model.specs.Lists.{Puts}
use Rattle.formula.specs.Kind.{Side}
use Rattle.shape.specs.Bytes.{side_of}
use Rattle.shape.proofs.Sides.{says_used, says_letter, says_field}
use Rattle.crossings.specs.Codes.{cross_lines}
use Rattle.crossings.proofs.put_cross.Goals as goal
use Rattle.crossings.proofs.put_cross.Lts as lts
use Rattle.crossings.proofs.put_cross.Reads as reads
use Rattle.crossings.proofs.put_cross.Tie as tie

-- what stands on the left, and that its lines are those that are promised
module _ (start : lts.Start tie.the-claims reads.Pre reads.Post) (u : Side) (met : side_of start.args.left.byte ≡ u) where
  abbrev lines : Side → List ℕ
  lines w = cross_lines start.args.crossing.l start.args.crossing.down start.args.crossing.here w start.args.left.code (side_of start.args.right.byte) start.args.right.code

  room : start.args.at + length (lines u) ≤ length start.args.buf.now
  room = subst (λ w. start.args.at + length (lines w) ≤ length start.args.buf.now) met start.requires.2

  promised : (b : List ℕ) (q : ℕ) → Puts start.args.buf.now start.args.at (lines u) b q → Puts start.args.buf.now start.args.at (lines (side_of start.args.left.byte)) b q
  promised b q f = subst (λ w. Puts start.args.buf.now start.args.at (lines w) b q) (sym met) f

pub put_past-requires : goal.put_past-requires
put_past-requires c =
    let few = c.requires.0 in
    (few.letters, few.at_here, few.at_right, room c.before.before.before.before _ (says_used _ c.if-left-eq-USED.true))

pub returns-then-left-eq-USED : goal.returns-then-left-eq-USED
returns-then-left-eq-USED c =
    promised c.before.before.before.before.before.before.before.before _ (says_used _ c.if-left-eq-USED.true) c.put_past.new.buf c.put_past.result c.put_past.ensures

pub put_letter-requires : goal.put_letter-requires
put_letter-requires c =
    let few = c.requires.0 in
    let letter = c.if-left-lt-FIRST_PLACE.true in
    (record { letters = few.letters; row = few.row; at_here = few.at_here; at_left = omega arith; at_right = few.at_right }, letter, room c.before.before.before.before.before.before _ (says_letter _ letter))

pub returns-then-left-lt-FIRST_PLACE : goal.returns-then-left-lt-FIRST_PLACE
returns-then-left-lt-FIRST_PLACE c =
    promised c.before.before.before.before.before.before.before.before.before.before _ (says_letter _ c.if-left-lt-FIRST_PLACE.true) c.put_letter.new.buf c.put_letter.result c.put_letter.ensures

pub put_open-requires : goal.put_open-requires
put_open-requires c =
    (c.requires.0, c.requires.1, room c.before.before.before.before.before.before _ (says_field _ c.if-left-lt-FIRST_PLACE.false c.if-left-eq-USED.false))

pub returns : goal.returns
returns c =
    let after = c.before.before.before in
    promised after.before.before.before.before.before.before.before _ (says_field _ after.if-left-lt-FIRST_PLACE.false after.if-left-eq-USED.false) after.put_open.new.buf after.put_open.result after.put_open.ensures
