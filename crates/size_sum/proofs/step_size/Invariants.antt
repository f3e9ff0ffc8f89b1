use mathlib.Core.Path.{◌≡◌}
use Prim.Native.Nat.{◌*◌, ◌≤◌}
use lib.ListN.{length}
use lib.IntN.{pos, ◌+ℤ◌}
use Rattle.model.specs.Lists.{total}
use Rattle.model.specs.Sheet.{sheet_of, constraint}
use Rattle.formula.specs.Clause.{Add, least}
use Rattle.literals.specs.Name.{line_of}
use Rattle.size_sum.proofs.step_size.Given as goal

abbrev pub invariant-loop-d : goal.invariant-loop-d
invariant-loop-d l = (l.sum ≡ total l.d (λ d'. total l.n (λ m. length (line_of (sheet_of l.sheet) (Add l.r l.k (least (sheet_of l.sheet) (constraint (sheet_of l.sheet) l.r) l.k +ℤ pos m) d'))))) × (l.sum ≤ l.d * 6000)
