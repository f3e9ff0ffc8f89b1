use mathlib.Core.Path.{◌≡◌}
use mathlib.Core.List.{map}
use Prim.Native.Nat.{◌+◌, ◌*◌, ◌≤◌}
use lib.ListN.{drop}
use Rattle.model.specs.Sheet.{symbol_of, width}
use Rattle.sections.proofs.width_of.Given as goal

abbrev pub invariant-loop-x : goal.invariant-loop-x
invariant-loop-x l = (l.total ≤ l.x-index * 256) × (l.total + width l.limits (map symbol_of (drop l.x-index l.symbols)) ≡ width l.limits (map symbol_of l.symbols))
