use mathlib.Core.Path.{◌≡◌}
use Prim.Native.Nat.{◌*◌, ◌≤◌}
use Rattle.model.specs.Lists.{total}
use Rattle.balance.specs.Balance.{taken_surplus}
use Rattle.balance.proofs.joined_surplus.Given as goal

abbrev pub invariant-loop-p : goal.invariant-loop-p
invariant-loop-p l = (l.sum ≡ total l.p (λ q. taken_surplus l.table l.ways q l.k)) × (l.sum ≤ 24 * l.p)
