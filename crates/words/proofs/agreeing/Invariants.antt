use mathlib.Core.Path.{◌≡◌}
use Prim.Native.Nat.{◌+◌}
use lib.ListN.{drop}
use Rattle.model.specs.Sheet.{Sheet}
use Rattle.model.specs.Mismatch as mismatch
use Rattle.words.proofs.agreeing.Given as goal

abbrev pub invariant-loop-i : goal.invariant-loop-i
invariant-loop-i l = (s : Sheet) → mismatch.agreeing s l.left l.right ≡ l.i + mismatch.agreeing s (drop l.i l.left) (drop l.i l.right)
