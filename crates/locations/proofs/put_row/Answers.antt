-- `locations::put_row` meets its contract. The loop's invariant: the lines of the first j locations have been written. Assumes nothing.
use mathlib.Core.List.{List}
use Prim.Native.Nat.{ℕ, ◌+◌, ◌*◌}
use native.Mathlib.Omega.{arith}
use lib.ListN.{get_or}
use Rattle.model.proofs.Pieces.{loop_none, loop_room, loop_next, loop_done}
use Rattle.shape.specs.Bytes.{side_of}
use Rattle.crossings.specs.Codes.{cross_lines}
use Rattle.locations.specs.Codes.{row_of}
use Rattle.crossings.specs.declared.Cell.{Cell}
use Rattle.locations.specs.declared.Row.{Row}
use Rattle.locations.proofs.put_row.Goals as goal

-- the lines of each location
abbrev lines : Row → ℕ → Cell → ℕ → List ℕ
lines row here left j = cross_lines row.l (2 * row.n) (here + 2 * j) (side_of left.byte) left.code (side_of (get_or row.bytes j 0)) (get_or row.codes j 0)

pub loop-j-init : goal.loop-j-init
loop-j-init c = loop_none (lines c.args.row c.args.here c.args.left)

pub put_cross-past-requires : goal.put_cross-past-requires
unfolding row_of
put_cross-past-requires c =
    let p = c.requires.0 in
    let j = c.loop-j.j in
    let here = c.loop-j-test.true in (
      record {
        letters = p.letters;
        row = omega (arith, p.row);
        at_here = omega (arith, p.row, p.at_here);
        at_left = omega (arith, p.at_left);
        at_right = omega (arith, p.at_right j here);
      },
      p.sides j here,
      loop_room (lines c.args.row c.args.here c.args.left) c.args.row.n c.requires.1 c.loop-j.invariant here,
    )

pub loop-j-preserved : goal.loop-j-preserved
unfolding row_of
loop-j-preserved c =
    let put = c.put_cross-past in
    loop_next (lines c.args.row c.args.here c.args.left) c.args.row.n c.requires.1 c.loop-j.invariant c.loop-j-test.true put.new.buf put.result put.ensures put.auto.buf

pub returns : goal.returns
unfolding row_of
returns c = loop_done (lines c.args.row c.args.here c.args.left) c.args.row.n c.requires.1 c.loop-j.invariant (omega arith)
