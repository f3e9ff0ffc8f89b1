-- The literals of a clause as nine codes.
use Rattle.std.specs.Prelude.{List, ◌++◌, map, ℕ, ◌-◌, length, replicate}
use Rattle.model.specs.Sheet.{Sheet}
use Rattle.formula.specs.Clause.{ClauseId, terms}
use Rattle.dimacs.specs.Codes.{term_code}

-- A clause as document 01 writes it, in codes, and 0 up to nine of them.
unfoldable pub nine : Sheet → ClauseId → List ℕ
nine s q = map (term_code s) (terms s q) ++ replicate (9 - length (terms s q)) 0
