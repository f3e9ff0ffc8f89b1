use mathlib.Core.List.{map}
use Prim.Native.Nat.{◌+◌}
use Rattle.model.specs.Lists.{up_to}
use Rattle.model.specs.Cells.{place}
use Rattle.model.proofs.Seams.{Written}
use Rattle.shape.specs.Bytes.{cell_byte}
use Rattle.shape.proofs.put_places.Given as goal

abbrev pub invariant-loop-c : goal.invariant-loop-c
invariant-loop-c l = Written l.initial.buf l.at (map cell_byte (map (place l.f) (up_to l.c))) l.buf (l.at + l.c)
