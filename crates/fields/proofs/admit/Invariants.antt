use mathlib.Core.Path.{◌≡◌}
use Prim.Native.Nat.{◌*◌}
use lib.ListN.{length, drop}
use Rattle.model.specs.Sheet.{rest, sheet_of}
use Rattle.model.specs.Filling.{texts, filling}
use Rattle.fields.proofs.admit.Given as goal

abbrev pub invariant-loop-f : goal.invariant-loop-f
invariant-loop-f l = rest (filling (sheet_of l.sheet) l.bytes) ≡ rest (texts (length (sheet_of l.sheet).letters) (drop l.f (sheet_of l.sheet).limits) (drop (9 * l.f) l.bytes))
