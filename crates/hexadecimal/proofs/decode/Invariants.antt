-- `hexadecimal::decode` meets its contract. The loop's invariant: what was written stands within `out`, whose length no store changes, and a first digit is one.
-- Assumes nothing.
use Rattle.std.proofs.Common.{◌≡◌, ◌<◌, ◌≤◌, length}
use Rattle.std.specs.Prelude.{IfSome}
use Rattle.hexadecimal.proofs.decode.Given as goal

abbrev pub invariant-loop-x : goal.invariant-loop-x
invariant-loop-x l = (l.n ≤ length l.out) × (length l.out ≡ length l.initial.out) × IfSome l.high (λ n. n < 16)
