-- The sections of the walk in the model's words.
use Rattle.std.specs.Prelude.{List, ℕ, ◌+◌, take, drop}
use Rattle.model.specs.Sheet as model
use Rattle.model.specs.Sheet.{Step, rest, ◌then◌, letter_byte, limit_byte}
use Rattle.sections.specs.declared.Section.{Section}
use Rattle.sections.specs.declared.Section.TheVariants.{Equations, Constraints}

-- the limits of a sheet with so many letters and fields
abbrev pub limits_in : List ℕ → ℕ → ℕ → List ℕ
limits_in b l v = take v (drop (9 + l) b)

-- one entry of a section, in a sheet with so many letters and fields
abbrev pub entry_of : List ℕ → ℕ → ℕ → Section → List ℕ → Step Unit
entry_of b l v Equations xs = rest (model.an_equation l (limits_in b l v) xs)
entry_of b l v Constraints xs = rest (model.a_constraint v xs)

-- the letters and the limits
abbrev pub tables_of : ℕ → ℕ → List ℕ → Step (List ℕ)
tables_of l v xs = model.row letter_byte 0 l xs then (λ ls xs1. model.row limit_byte 0 v xs1)

-- the counts of a header
abbrev pub counts_of : ℕ → ℕ → ℕ → ℕ → model.Counts
counts_of l v e r = record { letter_count = l; field_count = v; equation_count = e; constraint_count = r }
