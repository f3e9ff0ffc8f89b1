-- What is known of a sheet that the caller lends: its elements are bytes and, where it is accepted, it has a whole header. Assumes nothing.
use mathlib.Core.List.{List}
use Prim.Native.Nat.{ℕ, ◌<◌, ◌≤◌}
use lib.ListN.{length, get_or}
use mir.Syntax.{w8}
use mir.Val.{Fits}
use Rattle.model.specs.Lists.{Bytes}
use Rattle.model.specs.Sheet.{Accepted}
use Rattle.model.proofs.Lists.{from_at}
use Rattle.model.proofs.Places.{header-fits}

pub lent_bytes : (b : List ℕ) → ((k : ℕ) → Fits w8 (get_or b k 0)) → Bytes b
lent_bytes b h = from_at (λ x. x < 256) 0 b (λ k l. (h k).fits)

pub header-there : (b : List ℕ) → ((k : ℕ) → Fits w8 (get_or b k 0)) → Accepted b → 9 ≤ length b
header-there b h ok = header-fits b (lent_bytes b h) ok
