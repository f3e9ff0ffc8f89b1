use mathlib.Core.Path.{◌≡◌}
use Prim.Native.Nat.{◌*◌, ◌≤◌}
use lib.ListN.{get_or}
use Rattle.model.specs.Lists.{total}
use Rattle.bounds.proofs.sum.Given as goal

abbrev pub invariant-loop-x : goal.invariant-loop-x
invariant-loop-x l = (l.sum ≡ total l.x-index (λ f. get_or l.fn.n f 0)) × (l.sum ≤ 255 * l.x-index)
