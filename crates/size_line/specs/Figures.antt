-- How many of some numbers in a row reach a bound; a number has one figure more for each power of ten that it reaches.
use Rattle.std.specs.Prelude.{ℕ, ◌+◌, leb}
use Rattle.model.specs.Lists.{pick, total}

-- 1 if a number is at least p, else 0; and how many of the n numbers from a on are
abbrev pub reach : ℕ → ℕ → ℕ
reach p n = pick (leb p n) 1 0

abbrev pub reached : ℕ → ℕ → ℕ → ℕ
reached p a n = total n (λ k. reach p (a + k))
