use mathlib.Core.Path.{◌≡◌}
use mathlib.Core.List.{map, reverse}
use Prim.Native.Nat.{◌+◌}
use lib.ListN.{length, drop}
use Rattle.model.specs.Sheet.{sheet_of}
use Rattle.model.proofs.Seams.{Written}
use Rattle.sides.specs.Reversal.{turned_byte}
use Rattle.sides.proofs.put_turned.Given as goal

abbrev pub invariant-loop-i : goal.invariant-loop-i
invariant-loop-i l = (l.end + l.i ≡ l.at + length l.piece) × Written l.initial.x l.at (map (turned_byte (sheet_of l.sheet)) (reverse (drop l.i l.piece))) l.x l.end
