use Prim.Native.Nat.{◌*◌, ◌≤◌}
use Rattle.choice.proofs.Choice.rate.Given as goal

abbrev pub invariant-loop-q : goal.invariant-loop-q
invariant-loop-q l = l.o ≤ 512 * l.q
