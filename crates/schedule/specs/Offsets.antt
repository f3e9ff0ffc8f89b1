-- An hours file by offsets, as a reader meets it that goes from count to count: where the bytes of a template start, what stands there, and whether all of them
-- fit the file. `Offsets.antt` among the proofs shows that this is what is read.
use Rattle.std.specs.Prelude.{Bool, ◌&&◌, List, [], ◌∷◌, ℕ, zero, suc, ◌+◌, ◌*◌, leb, ltb, eqb, length}
use Rattle.model.specs.Sheet.{sixteen, byte}
use Rattle.schedule.specs.Schedule.{Interval, Schedule}

-- the minute at an offset, and the interval
abbrev pub minute_at : List ℕ → ℕ → ℕ
minute_at b k = sixteen (byte b k) (byte b (k + 1))

abbrev pub interval_at : List ℕ → ℕ → Interval
interval_at b k = record { start = minute_at b k; end = minute_at b (k + 2) }

-- n intervals from an offset on
unfoldable pub standing : List ℕ → ℕ → ℕ → List Interval
standing b k zero = []
standing b k (suc n) = interval_at b k ∷ standing b (k + 4) n

-- the intervals of a template whose count is at offset k, and the offset past them
abbrev pub own_at : List ℕ → ℕ → List Interval
own_at b k = standing b (k + 1) (byte b k)

abbrev pub next_at : List ℕ → ℕ → ℕ
next_at b k = k + 1 + 4 * byte b k

-- where the i-th template from offset k on starts
unfoldable pub start_at : List ℕ → ℕ → ℕ → ℕ
start_at b k zero = k
start_at b k (suc i) = start_at b (next_at b k) i

-- what n templates from offset k on say
unfoldable pub laid : List ℕ → ℕ → ℕ → Schedule
laid b k zero = []
laid b k (suc n) = own_at b k ∷ laid b (next_at b k) n

-- whether they are all the bytes from there on, each count at most 4
unfoldable pub fits : List ℕ → ℕ → ℕ → Bool
fits b k zero = eqb k (length b)
fits b k (suc n) = ltb k (length b) && (leb (byte b k) 4 && fits b (next_at b k) n)
