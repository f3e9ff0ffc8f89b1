-- A schedule (document 02, No. 6: an hours file): what it says of the templates of a book, and the bytes that say it. `read_hours` gives the schedule of a list of
-- bytes or the refusal, `encode_hours` the bytes of a schedule, and `ScheduleIn` the ranges. Quotes are of document 02. What it means that two templates share a
-- minute is in `Shared.antt`.
use Rattle.std.specs.Prelude.{◌≡◌, Bool, ◌&&◌, List, [], ◌∷◌, ◌++◌, ℕ, ◌<◌, ◌≤◌, leb, ltb, length, get_or, drop}
use Rattle.model.specs.Lists.{pick, each, All}
use Rattle.model.specs.Sheet.{Step, got, fault, ◌then◌, times, sixteen, bytes_of}
use Rattle.book.specs.Book.{count, opens}

-- What an hours file says.

-- An interval (document 02: a window): "two 16-bit minutes, from Monday 00:00, the start included and the end not".
pub record Interval : Type 0 where
  pub start : ℕ
  pub end : ℕ

-- "for each template of a book, in book order, .. that many windows"
abbrev pub Schedule : Type 0
Schedule = List (List Interval)

-- the intervals of a template, by its number
abbrev pub intervals : Schedule → ℕ → List Interval
intervals s i = get_or s i []

-- Reading. First the whole file, without a look at the minutes: "43 when mark or version is wrong, a count is above 4, or bytes are missing or left over for the
-- book's templates." Whatever fault a part has there, it is 43.

-- a number of 16 bits
unfoldable pub minute : List ℕ → Step ℕ
minute [] = fault 43
minute (high ∷ []) = fault 43
minute (high ∷ low ∷ xs) = got (sixteen high low) xs

-- "A window is two 16-bit minutes"
unfoldable pub an_interval : List ℕ → Step Interval
an_interval xs = minute xs then (λ m ys. minute ys then (λ n zs. got (record { start = m; end = n }) zs))

-- "a count byte of 0 to 4 and then that many windows"
unfoldable pub some_intervals : List ℕ → Step (List Interval)
some_intervals xs = count 0 4 xs then (λ n ys. times n an_interval ys)

-- The answer of reading: the schedule, or the refusal's number.
pub data Reading : Type 0 where
  accepted : Schedule → Reading
  refused : ℕ → Reading

-- "then 44 and 45 window by window".

-- "44 when a start is not below its end or an end is above 10,080."
abbrev pub in_week : Interval → Bool
in_week w = ltb w.start w.end && leb w.end 10080

-- the intervals of one template that are left, the end of the preceding one given (0 where there is none): 44 first, and then "45 when a window starts before the
-- preceding one of its template ends"
unfoldable pub tested : ℕ → List Interval → Reading → Reading
tested before [] go = go
tested before (w ∷ ws) go = pick (in_week w) (pick (leb before w.start) (tested w.end ws go) (refused 45)) (refused 44)

unfoldable pub all_tested : Schedule → Reading → Reading
all_tested [] go = go
all_tested (ws ∷ s) go = tested 0 ws (all_tested s go)

-- "the mark TPH"
abbrev pub mark : List ℕ
mark = 84 ∷ 80 ∷ 72 ∷ []

abbrev pub ended : Step Schedule → Reading
ended (got s []) = all_tested s (accepted s)
ended (got s (x ∷ xs)) = refused 43
ended (fault n) = refused 43

-- of a book with n templates
unfoldable pub read_hours : ℕ → List ℕ → Reading
read_hours n b = pick (opens mark b) (ended (times n some_intervals (drop 5 b))) (refused 43)

-- The bytes of a schedule, as document 02 lists them.
abbrev pub encode_interval : Interval → List ℕ
encode_interval w = bytes_of w.start ++ bytes_of w.end

abbrev pub encode_intervals : List Interval → List ℕ
encode_intervals ws = (length ws ∷ []) ++ each ws encode_interval

unfoldable pub encode_hours : Schedule → List ℕ
encode_hours s = mark ++ (bytes_of 1 ++ each s encode_intervals)

-- What the bytes alone ask, whatever the minutes: 16 bits for each, and at most four intervals for a template.
abbrev pub Minute : ℕ → Type 0
Minute m = m < 65536

abbrev pub Minutes : Interval → Type 0
Minutes w = Minute w.start × Minute w.end

abbrev pub Four : List Interval → Type 0
Four ws = (length ws ≤ 4) × All Minutes ws

-- The ranges: which schedules there are. An interval has a minute, and ends within the week.
pub record IntervalIn (w : Interval) : Type 0 where
  pub some : w.start < w.end
  pub within : w.end ≤ 10080

-- each starts where the preceding one ends, or later
unfoldable pub Ordered : ℕ → List Interval → Type 0
Ordered before [] = Unit
Ordered before (w ∷ ws) = (before ≤ w.start) × Ordered w.end ws

pub record OwnIn (ws : List Interval) : Type 0 where
  -- "a count byte of 0 to 4"
  pub few : length ws ≤ 4
  pub each_in : All IntervalIn ws
  pub in_order : Ordered 0 ws

pub record ScheduleIn (n : ℕ) (s : Schedule) : Type 0 where
  -- "for each template of a book"
  pub one_each : length s ≡ n
  pub all_in : All OwnIn s

-- the schedule that accepted bytes say (of others, one without templates)
abbrev pub schedule_in : Reading → Schedule
schedule_in (accepted s) = s
schedule_in (refused n) = []

unfoldable pub schedule_of : ℕ → List ℕ → Schedule
schedule_of n b = schedule_in (read_hours n b)

-- bytes that are accepted, with what that gives
abbrev pub Admitted : ℕ → List ℕ → Type 0
Admitted n b = (read_hours n b ≡ accepted (schedule_of n b)) × ScheduleIn n (schedule_of n b)
