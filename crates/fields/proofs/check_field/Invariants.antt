use mathlib.Core.Path.{◌≡◌}
use Prim.Native.Nat.{◌+◌, ◌-◌}
use lib.ListN.{drop}
use Rattle.model.specs.Sheet.{rest}
use Rattle.model.specs.Filling.{places, a_text}
use Rattle.fields.proofs.check_field.Given as goal

abbrev pub invariant-loop-c : goal.invariant-loop-c
invariant-loop-c l = rest (a_text l.letters l.limit l.bytes) ≡ rest (places l.letters (l.len - l.c) (8 - l.c) (drop (l.c + 1) l.bytes))
