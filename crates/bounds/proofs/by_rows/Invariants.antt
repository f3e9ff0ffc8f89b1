use Rattle.bounds.specs.Bounds.{RowsPassed}
use Rattle.bounds.proofs.by_rows.Given as goal

abbrev pub invariant-loop-i : goal.invariant-loop-i
invariant-loop-i l = RowsPassed l.rows l.count l.i l.fn.ranges.lo l.fn.ranges.hi l.left.lo l.left.hi
