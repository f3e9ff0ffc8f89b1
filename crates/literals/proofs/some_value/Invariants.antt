use mathlib.Core.Path.{◌≡◌}
use mathlib.Core.List.{◌++◌, map}
use Prim.Native.Nat.{◌+◌, ◌*◌}
use lib.ListN.{drop, replicate}
use Rattle.model.specs.Lists.{up_to}
use Rattle.literals.proofs.some_value.Given as goal

abbrev pub invariant-loop-a : goal.invariant-loop-a
invariant-loop-a l = l.codes ≡ map (λ k. 2 * (l.first + k)) (up_to l.a) ++ drop l.a (replicate 9 0)
