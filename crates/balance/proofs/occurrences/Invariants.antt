use mathlib.Core.Path.{◌≡◌}
use Prim.Native.Nat.{◌+◌, ◌≤◌}
use lib.ListN.{drop}
use Rattle.balance.specs.Balance.{count}
use Rattle.balance.proofs.occurrences.Given as goal

abbrev pub invariant-loop-x : goal.invariant-loop-x
invariant-loop-x l = (l.n + count l.symbol (drop l.x-index l.template) ≡ count l.symbol l.template) × (l.n ≤ l.x-index)
