use Prim.Native.Nat.{ℕ, ◌*◌, ◌<◌, ◌≤◌}
use lib.ListN.{get_or}
use Rattle.bounds.proofs.reach.Given as goal

abbrev pub invariant-loop-n : goal.invariant-loop-n
invariant-loop-n l = (l.n ≤ l.range) × ((m : ℕ) → l.n < m → m ≤ l.range → l.slack < get_or l.rows l.at 0 * m)

abbrev pub decreases-loop-n : goal.decreases-loop-n
decreases-loop-n l = l.n
