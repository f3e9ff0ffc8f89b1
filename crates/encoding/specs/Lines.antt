-- What it means that line n was written into a buffer, by its length, or that there is none and the buffer is as it was.
use Rattle.std.specs.Prelude.{◌≡◌, List, ℕ, ◌<◌, ◌≤◌, length, Option, Some, None}
use Rattle.model.specs.Lists.{Puts}
use Rattle.model.specs.Sheet.{Sheet}
use Rattle.formula.specs.Clause.{ids}
use Rattle.formula.specs.Dimacs.{line}

abbrev pub LineWritten : Sheet → ℕ → List ℕ → Option ℕ → List ℕ → Type 0
LineWritten s n before (Some k) after = (n ≤ length (ids s)) × Puts before 0 (line s n) after k
LineWritten s n before None after = (length (ids s) < n) × (after ≡ before)
