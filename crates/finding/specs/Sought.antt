-- What is found of a number among some clauses.
use Rattle.std.specs.Prelude.{◌≡◌, ℕ, ◌+◌, ◌<◌, Result, Ok, Err}
use Rattle.model.specs.Sheet.{Sheet}
use Rattle.formula.specs.Clause.{id_at}
use Rattle.literals.specs.Name.{name_of}
use Rattle.literals.specs.declared.ClauseId.{ClauseId}

-- of number n among those from `start` on, as many as `size`: its clause, or how far it is past them
abbrev pub Sought : Sheet → ℕ → ℕ → ℕ → Result ClauseId ℕ → Type 0
Sought s start size n (Ok q) = (n < size) × (name_of q ≡ id_at s (start + n))
Sought s start size n (Err k) = size + k ≡ n
