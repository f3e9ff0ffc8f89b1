use mathlib.Core.Path.{◌≡◌}
use Prim.Native.Nat.{◌*◌, ◌≤◌}
use lib.ListN.{length}
use Rattle.model.specs.Lists.{each, up_to}
use Rattle.rendering.specs.Codes.{pair_lines}
use Rattle.size_file.proofs.pairs_size.Given as goal

abbrev pub invariant-loop-a : goal.invariant-loop-a
invariant-loop-a l = (l.sum ≡ length (each (up_to l.a) (pair_lines l.first l.letters))) × (l.sum ≤ l.a * 128)
