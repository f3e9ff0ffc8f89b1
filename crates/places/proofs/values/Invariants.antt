use Rattle.model.specs.Sheet.{sheet_of}
use Rattle.places.proofs.Laws.{is_true, Counted}
use Rattle.places.proofs.values.Given as goal

abbrev pub invariant-loop-a : goal.invariant-loop-a
invariant-loop-a l = Counted (is_true (sheet_of l.sheet) l.marks l.f l.c) l.blank l.a l.count l.least
