-- Which templates of a book share a minute of the week, by their schedule (document 02, No. 6), and the list of those that clash and share one.
use Rattle.std.specs.Prelude.{Bool, ◌&&◌, List, ℕ, ◌≤◌, ◌<◌, leb, ltb, length, get_or}
use Rattle.model.specs.Lists.{up_to, any, keep}
use Rattle.book.specs.Book.{Book}
use Rattle.book.specs.Pairs.{Pair, clashing}
use Rattle.schedule.specs.Schedule.{Interval, Schedule, intervals}

-- A minute in an interval: "the start included and the end not".
abbrev pub during : Interval → ℕ → Bool
during w m = leb w.start m && ltb m w.end

-- whether a template may be sent in a minute: it is in one of its intervals
unfoldable pub sent : List Interval → ℕ → Bool
sent ws m = any (λ w. during w m) ws

-- "A week has 10,080 minutes": two templates share one of them
unfoldable pub share : Schedule → ℕ → ℕ → Bool
share s i j = any (λ m. sent (intervals s i) m && sent (intervals s j) m) (up_to 10080)

-- The same without a test: some minute is in an interval of the one and in an interval of the other.
pub record Sent (ws : List Interval) (m : ℕ) : Type 0 where
  pub number : ℕ
  pub there : number < length ws
  pub from_start : (get_or ws number (record { start = 0; end = 0 })).start ≤ m
  pub before_end : m < (get_or ws number (record { start = 0; end = 0 })).end

pub record Share (s : Schedule) (i j : ℕ) : Type 0 where
  pub minute : ℕ
  pub of_first : Sent (intervals s i) minute
  pub of_second : Sent (intervals s j) minute

-- "The book's list is then exactly the clashing pairs that also share a minute".
unfoldable pub sharing : Book → Schedule → List Pair
sharing k s = keep (λ p. share s p.first p.second) (clashing k)

-- A shared minute by the ends alone, which decide it (`Overlapping.antt`): each of two intervals starts before the other ends.
abbrev pub overlap : Interval → Interval → Bool
overlap v w = ltb v.start w.end && ltb w.start v.end

unfoldable pub overlaps : List Interval → List Interval → Bool
overlaps vs ws = any (λ v. any (overlap v) ws) vs
