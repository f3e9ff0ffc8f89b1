-- The lines of a place by the code of its value 0. `Whole.antt` of the proofs shows that these are the lines of the model's clauses.
use Rattle.std.specs.Prelude.{List, ℕ, ◌+◌, ◌-◌, ◌*◌}
use Rattle.model.specs.Lists.{each, up_to}
use Rattle.matching.specs.Codes.{unlike_line}

-- Not value a and a later one, each later one, by the code of value 0 of their place; with l letters.
abbrev pub pair_lines : ℕ → ℕ → ℕ → List ℕ
pair_lines first l a = each (up_to (l - a)) (unlike_line (first + 2 * a) first (a + 1))
