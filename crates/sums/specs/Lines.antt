-- The lines of a constraint, in the order of the clauses that are not left out.
use Rattle.std.specs.Prelude.{List, ◌++◌, ℕ, suc, ◌+◌, ◌-◌, pos, ◌+ℤ◌}
use Rattle.model.specs.Lists.{each, up_to}
use Rattle.model.specs.Sheet.{Sheet, limit, constraint}
use Rattle.formula.specs.Clause.{Zero, Add, Bound, least, spread, fields}
use Rattle.formula.specs.Count.{within}
use Rattle.literals.specs.Name.{line_of}

-- of a sum of the first k fields, the n-th from the least on; of field k's step; of the final sums above the limit; of a constraint
unfoldable pub sum_lines : Sheet → ℕ → ℕ → ℕ → List ℕ
sum_lines s r k n = each (up_to (suc (limit s k))) (λ d. line_of s (Add r k (least s (constraint s r) k +ℤ pos n) d))

unfoldable pub step_lines : Sheet → ℕ → ℕ → List ℕ
step_lines s r k = each (up_to (suc (spread s (constraint s r) k))) (sum_lines s r k)

unfoldable pub bound_line : Sheet → ℕ → ℕ → List ℕ
bound_line s r n = line_of s (Bound r (least s (constraint s r) (fields s) +ℤ pos (within s (constraint s r) + n)))

unfoldable pub bound_lines : Sheet → ℕ → List ℕ
bound_lines s r = each (up_to (suc (spread s (constraint s r) (fields s)) - within s (constraint s r))) (bound_line s r)

unfoldable pub constraint_lines : Sheet → ℕ → List ℕ
constraint_lines s r = line_of s (Zero r) ++ (each (up_to (fields s)) (step_lines s r) ++ bound_lines s r)
