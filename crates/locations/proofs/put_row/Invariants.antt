use Prim.Native.Nat.{◌+◌, ◌*◌}
use lib.ListN.{get_or}
use Rattle.model.specs.Lists.{each, up_to}
use Rattle.model.proofs.Seams.{Written}
use Rattle.shape.specs.Bytes.{side_of}
use Rattle.crossings.specs.Codes.{cross_lines}
use Rattle.locations.proofs.put_row.Given as goal

abbrev pub invariant-loop-j : goal.invariant-loop-j
invariant-loop-j l = Written l.initial.buf l.at (each (up_to l.j) (λ j'. cross_lines l.row.l (2 * l.row.n) (l.here + 2 * j') (side_of l.left.byte) l.left.code (side_of (get_or l.row.bytes j' 0)) (get_or l.row.codes j' 0))) l.buf l.past
