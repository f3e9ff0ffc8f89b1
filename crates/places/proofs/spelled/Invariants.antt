use Rattle.model.specs.Sheet.{sheet_of}
use Rattle.formula.specs.Assignment.{truth}
use Rattle.places.proofs.Laws.{Filled, text_at}
use Rattle.places.proofs.spelled.Given as goal

abbrev pub invariant-loop-f : goal.invariant-loop-f
invariant-loop-f l = Filled (text_at (sheet_of l.sheet) (truth l.marks)) l.f l.g
