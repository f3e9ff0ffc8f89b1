use mathlib.Core.Path.{◌≡◌}
use mathlib.Core.List.{◌++◌, map}
use Prim.Native.Nat.{ℕ, ◌<◌}
use lib.ListN.{drop}
use Rattle.model.specs.Lists.{up_to}
use Rattle.model.specs.Sheet.{sheet_of}
use Rattle.formula.specs.Assignment.{truth, held}
use Rattle.places.proofs.field_text.Given as goal

abbrev pub invariant-loop-c : goal.invariant-loop-c
invariant-loop-c l =
    (l.letters ≡ map (held (sheet_of l.sheet) (truth l.marks) l.f) (up_to l.c) ++ drop l.c l.initial.letters)
    × ((k : ℕ) → k < l.c → held (sheet_of l.sheet) (truth l.marks) l.f k ≡ l.blank → ⊥)
