-- At lengths within the ranges that are asked, an attempt at the reversed equations succeeds where one at the equations does. Assumes nothing.
use mathlib.Core.List.{List, map}
use Prim.Native.Nat.{ℕ, ◌<◌, ◌≤◌}
use native.Mathlib.Omega.{arith}
use lib.ListN.{length, get_or}
use Rattle.model.specs.Lists.{All}
use Rattle.model.specs.Sheet.{Sheet, limit}
use Rattle.model.specs.Sheet as sheet
use Rattle.model.specs.Range.{EquationIn, InRange}
use Rattle.formula.proofs.Small.{limit-small}
use Rattle.trails.specs.Mirror.{sides_of, mirror_sides}
use Rattle.trails.proofs.Mirror.{mirror_attempt, equations_fit}
use Rattle.boxes.specs.Boxes.{Twins}
use Rattle.question.specs.declared.Ask.{Ask}
use Rattle.question.specs.Ask.{Asking}

pub asked_twins : (s : Sheet) → InRange s → (a : Ask) → Asking s a → (qs : List sheet.Equation) → All (EquationIn (length s.letters) s.limits) qs → Twins (map (sides_of s) qs) (map (mirror_sides s) qs) a.ranges.lo a.ranges.hi
asked_twins s ok a asking qs h n within =
    let short : (f : ℕ) → f < 6 → get_or n f 0 ≤ limit s f = λ f k. omega (arith, (within f k).1, asking.limited f k) in
    mirror_attempt s n (λ f k. omega (arith, short f k, limit-small s ok f)) qs (equations_fit s ok n short qs h)
