-- Where a sheet of bytes is accepted it is within the ranges. Assumes nothing.
use mathlib.Core.Path.{◌≡◌, sym}
use mathlib.Core.List.{List}
use Prim.Native.Nat.{ℕ}
use Rattle.model.specs.Lists.{Bytes}
use Rattle.calls.specs.Calls.{reading}
use Rattle.model.proofs.Known.{accepted_in_range}
use Rattle.calls.proofs.Read.{reading-accepted}
use Rattle.sheet.specs.Answer.{answer, IsAdmitted}
use Rattle.std.specs.Prelude.{Result, Ok, Err}
use Rattle.sheet.specs.declared.Refusal.{Refusal}
use Rattle.parts.specs.declared.Counts.{Counts}

pub admitted_by : (b : List ℕ) (r : Result Counts Refusal) → Bytes b → answer r ≡ reading b → IsAdmitted b r
admitted_by b (Ok c) y e = let h = reading-accepted b (sym e) in (h, accepted_in_range b y h)
admitted_by b (Err f) y e = tt
