use mathlib.Core.Path.{◌≡◌}
use Prim.Native.Nat.{ℕ, ◌-◌, ◌*◌, ◌≤◌}
use Rattle.model.specs.Lists.{total}
use Rattle.counting.proofs.not_both_count.Given as goal

abbrev pub part : ℕ → ℕ → ℕ
part l a = l - a

abbrev pub invariant-loop-a : goal.invariant-loop-a
invariant-loop-a l = (l.sum ≡ total l.a (part l.l)) × (l.sum ≤ l.a * 8)
