use Prim.Native.Nat.{ℕ, ◌<◌, ◌≤◌}
use Rattle.balance.specs.Balance.{joined_surplus, Fair}
use Rattle.balance.proofs.lopsided.Given as goal

abbrev pub invariant-loop-f : goal.invariant-loop-f
invariant-loop-f l = (k : ℕ) → 8 ≤ k → k < l.f → Fair l.pairs (joined_surplus l.table l.ways k)
