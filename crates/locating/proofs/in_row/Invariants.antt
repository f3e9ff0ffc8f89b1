use mathlib.Core.Path.{◌≡◌}
use Prim.Native.Nat.{◌+◌}
use Rattle.model.specs.Lists.{total}
use Rattle.model.specs.Sheet.{sheet_of}
use Rattle.formula.specs.Count.{location_size}
use Rattle.locating.proofs.in_row.Given as goal

abbrev pub invariant-loop-j : goal.invariant-loop-j
invariant-loop-j l = total l.j (location_size (sheet_of l.sheet) l.p l.i) + l.rest ≡ l.n
