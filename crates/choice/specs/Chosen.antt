-- The field that parts a box of lengths.
use Rattle.std.specs.Prelude.{◌≡◌, List, ℕ, ◌<◌, get_or, Option, MatchOption}

-- a field whose length is open
abbrev pub Open : List ℕ → List ℕ → ℕ → Type 0
Open lo hi f = (f < 6) × (get_or lo f 0 < get_or hi f 0)

-- such a field, or none where all are settled
abbrev pub Chosen : List ℕ → List ℕ → Option ℕ → Type 0
Chosen lo hi r = MatchOption r ((f : ℕ) → f < 6 → get_or lo f 0 ≡ get_or hi f 0) (Open lo hi)
