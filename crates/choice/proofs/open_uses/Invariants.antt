use Prim.Native.Nat.{◌*◌, ◌≤◌}
use Rattle.choice.proofs.open_uses.Given as goal

abbrev pub invariant-loop-f : goal.invariant-loop-f
invariant-loop-f l = l.sum ≤ 255 * l.f
