-- A table of which templates share a minute.
use Rattle.std.specs.Prelude.{◌≡◌, List, ℕ, ◌+◌, ◌*◌, ◌<◌, get_or}
use Rattle.model.specs.Lists.{pick}
use Rattle.schedule.specs.Schedule.{Schedule}
use Rattle.schedule.specs.Shared.{share}

-- the byte of i and j, i below j, of n templates
abbrev pub Marks : ℕ → Schedule → ℕ → ℕ → ℕ → Type 0
Marks n s i j v = i < j → j < n → v ≡ pick (share s i j) 1 0

-- each in row i, at j
abbrev pub Shows : ℕ → Schedule → List ℕ → Type 0
Shows n s table = (i j : ℕ) → Marks n s i j (get_or table (i * 16 + j) 0)
