-- `vectors_reply::unescape` meets its contract. The loop's invariant: what was put stands within `out`, whose length no call of `put` changes.
-- Assumes nothing.
use Rattle.std.proofs.Common.{◌≡◌, ◌≤◌, length}
use Rattle.vectors_reply.proofs.unescape.Given as goal

abbrev pub invariant-loop-x : goal.invariant-loop-x
invariant-loop-x l = (l.n ≤ length l.out) × (length l.out ≡ length l.initial.out)
