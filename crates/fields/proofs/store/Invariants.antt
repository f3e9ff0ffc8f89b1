use mathlib.Core.Path.{◌≡◌}
use mathlib.Core.List.{◌++◌}
use Prim.Native.Nat.{◌*◌}
use lib.ListN.{length, drop}
use Rattle.fields.proofs.Laws.{memory_bytes}
use Rattle.fields.proofs.store.Given as goal

abbrev pub invariant-loop-f : goal.invariant-loop-f
invariant-loop-f l = (length l.buf ≡ length l.initial.buf) × (l.buf ≡ memory_bytes l.f l.g ++ drop (9 * l.f) l.initial.buf)
