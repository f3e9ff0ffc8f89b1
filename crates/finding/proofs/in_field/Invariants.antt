use mathlib.Core.Path.{◌≡◌}
use Prim.Native.Nat.{◌+◌, ◌-◌, ◌%◌}
use Rattle.model.specs.Lists.{total}
use Rattle.finding.proofs.in_field.Given as goal

abbrev pub invariant-loop-a : goal.invariant-loop-a
invariant-loop-a l = total l.a (λ a'. l.letters - a') + l.rest ≡ l.n % l.size - 1
