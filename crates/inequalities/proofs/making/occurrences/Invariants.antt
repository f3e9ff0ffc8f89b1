use mathlib.Core.Path.{◌≡◌}
use mathlib.Core.List.{map}
use Prim.Native.Nat.{◌+◌, ◌≤◌}
use lib.ListN.{drop}
use Rattle.model.specs.Sheet.{symbol_of}
use Rattle.inequalities.specs.Rows.{occurrences}
use Rattle.inequalities.proofs.making.occurrences.Given as goal

abbrev pub invariant-loop-symbol : goal.invariant-loop-symbol
invariant-loop-symbol l =
    (l.n + occurrences (map symbol_of (drop l.symbol-index l.template)) l.k ≡ occurrences (map symbol_of l.template) l.k) × (l.n ≤ l.symbol-index)
