use mathlib.Core.Path.{◌≡◌}
use mathlib.Core.List.{map}
use Rattle.model.specs.Lists.{up_to}
use Rattle.model.specs.Sheet.{sheet_of}
use Rattle.formula.specs.Assignment.{truth, held}
use Rattle.calls.specs.Reply.{blanks_last}
use Rattle.places.proofs.Laws.{ahead}
use Rattle.places.proofs.blanks_last.Given as goal

abbrev pub invariant-loop-c : goal.invariant-loop-c
invariant-loop-c l =
    blanks_last l.blank (map (held (sheet_of l.sheet) (truth l.marks) l.f) (up_to l.limit)) ≡ ahead l.blank (held (sheet_of l.sheet) (truth l.marks) l.f) l.limit l.ended l.c
