use mathlib.Core.Path.{◌≡◌}
use Rattle.fields.specs.Memory.{loaded}
use Rattle.fields.proofs.load_fields.Given as goal

abbrev pub invariant-loop-f : goal.invariant-loop-f
invariant-loop-f l = l.g ≡ loaded l.f l.bytes
