use Rattle.model.specs.Sheet.{sheet_of}
use Rattle.sides.proofs.Flat.{Asked}
use Rattle.sides.proofs.put_equations.Given as goal

abbrev pub invariant-loop-p : goal.invariant-loop-p
invariant-loop-p l = Asked (sheet_of l.sheet) l.back l.marks l.initial.x l.initial.w l.p l.x l.w l.sizes
