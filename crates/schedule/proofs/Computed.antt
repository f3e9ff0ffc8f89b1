-- Schedules, computed: one read in full, with parts that differ from each other; damaged hours files with the refusal that is given, of a book with two
-- templates; the longest file; which templates share a minute; and the list of those that clash and share one. Assumes nothing.
use mathlib.Core.Path.{◌≡◌, refl}
use mathlib.Core.Bool.{Bool, true, false}
use mathlib.Core.List.{List, [], ◌∷◌, ◌++◌, map}
use Prim.Native.Nat.{ℕ}
use lib.ListN.{length}
use Rattle.model.specs.Lists.{starts_with, same, each, from, keep, all, any}
use Rattle.model.specs.Sheet.{letter, times}
use Rattle.model.specs.Word.{spell, same_letter, same_word, equation_holds, constraint_holds, keeps, solves}
use Rattle.model.specs.Solvable.{all_texts, substitutions, solvable}
use Rattle.book.specs.Book.{Book, count, opens}
use Rattle.book.specs.Pairs.{asked, pairs, clashing, list_bytes}
use Rattle.schedule.specs.Schedule.{Interval, minute, an_interval, some_intervals, accepted, refused, tested, all_tested, mark, read_hours}
use Rattle.schedule.specs.Shared.{sent, share, sharing, overlaps}

infix 6 ◌to◌
abbrev pub ◌to◌ : ℕ → ℕ → Interval
m to n = record { start = m; end = n }

-- an hours file of version 1 from its first count on
abbrev pub hours : List ℕ → List ℕ
hours xs = mark ++ (0 ∷ 1 ∷ xs)

-- Three templates: Monday 09:00 to 17:30 and Saturday 10:00 to 14:00; never; the whole week.
pub read_in_full : read_hours 3 (hours (2 ∷ 2 ∷ 28 ∷ 4 ∷ 26 ∷ 30 ∷ 120 ∷ 31 ∷ 104 ∷ 0 ∷ 1 ∷ 0 ∷ 0 ∷ 39 ∷ 96 ∷ []))
    ≡ accepted (((540 to 1050) ∷ (7800 to 8040) ∷ []) ∷ [] ∷ ((0 to 10080) ∷ []) ∷ [])
unfolding starts_with times count opens minute an_interval some_intervals tested all_tested read_hours
read_in_full = refl

-- windows that touch are in order, and a minute is enough for one
pub touching_in_order : read_hours 1 (hours (4 ∷ 0 ∷ 0 ∷ 0 ∷ 1 ∷ 0 ∷ 1 ∷ 0 ∷ 2 ∷ 0 ∷ 2 ∷ 39 ∷ 95 ∷ 39 ∷ 95 ∷ 39 ∷ 96 ∷ []))
    ≡ accepted (((0 to 1) ∷ (1 to 2) ∷ (2 to 10079) ∷ (10079 to 10080) ∷ []) ∷ [])
unfolding starts_with times count opens minute an_interval some_intervals tested all_tested read_hours
touching_in_order = refl

-- a damaged hours file and its refusal
pub record Case : Type 0 where
  pub bytes : List ℕ
  pub first : ℕ

abbrev ◌gives◌ : List ℕ → ℕ → Case
◌gives◌ b n = record { bytes = b; first = n }

infix 5 ◌gives◌
abbrev damaged : List Case
damaged =
    -- nothing; four bytes; the book's mark; a version in the wrong byte, version 2, version 257
    ([] gives 43)
    ∷ (mark ++ (0 ∷ []) gives 43)
    ∷ (84 ∷ 80 ∷ 66 ∷ 0 ∷ 1 ∷ 0 ∷ 0 ∷ [] gives 43)
    ∷ (mark ++ (1 ∷ 0 ∷ 0 ∷ 0 ∷ []) gives 43)
    ∷ (mark ++ (0 ∷ 2 ∷ 0 ∷ 0 ∷ []) gives 43)
    ∷ (mark ++ (1 ∷ 1 ∷ 0 ∷ 0 ∷ []) gives 43)
    -- a wrong mark before a window that is empty
    ∷ (84 ∷ 80 ∷ 76 ∷ 0 ∷ 1 ∷ 0 ∷ 1 ∷ 0 ∷ 9 ∷ 0 ∷ 9 ∷ [] gives 43)
    -- five good bytes and no more; a template missing; one too many
    ∷ (hours [] gives 43)
    ∷ (hours (0 ∷ []) gives 43)
    ∷ (hours (0 ∷ 0 ∷ 0 ∷ []) gives 43)
    -- 255 windows, and five
    ∷ (hours (0 ∷ 255 ∷ []) gives 43)
    ∷ (hours (0 ∷ 5 ∷ 0 ∷ 0 ∷ 0 ∷ 1 ∷ 0 ∷ 1 ∷ 0 ∷ 2 ∷ 0 ∷ 2 ∷ 0 ∷ 3 ∷ 0 ∷ 3 ∷ 0 ∷ 4 ∷ 0 ∷ 4 ∷ 0 ∷ 5 ∷ []) gives 43)
    -- the last byte missing, and the last minute
    ∷ (hours (0 ∷ 1 ∷ 0 ∷ 0 ∷ 0 ∷ []) gives 43)
    ∷ (hours (0 ∷ 1 ∷ 0 ∷ 0 ∷ []) gives 43)
    -- a window of no minute; one that ends before it starts; one that ends after the week
    ∷ (hours (0 ∷ 1 ∷ 0 ∷ 9 ∷ 0 ∷ 9 ∷ []) gives 44)
    ∷ (hours (0 ∷ 1 ∷ 1 ∷ 0 ∷ 0 ∷ 255 ∷ []) gives 44)
    ∷ (hours (0 ∷ 1 ∷ 0 ∷ 0 ∷ 39 ∷ 97 ∷ []) gives 44)
    -- a window that starts a minute before the preceding one ends; one that lies before it; the same twice
    ∷ (hours (2 ∷ 0 ∷ 0 ∷ 0 ∷ 9 ∷ 0 ∷ 8 ∷ 0 ∷ 20 ∷ 0 ∷ []) gives 45)
    ∷ (hours (2 ∷ 0 ∷ 7 ∷ 0 ∷ 9 ∷ 0 ∷ 1 ∷ 0 ∷ 2 ∷ 0 ∷ []) gives 45)
    ∷ (hours (2 ∷ 0 ∷ 7 ∷ 0 ∷ 9 ∷ 0 ∷ 7 ∷ 0 ∷ 9 ∷ 0 ∷ []) gives 45)
    -- 43 before 44 and 45, wherever it stands
    ∷ (hours (1 ∷ 0 ∷ 9 ∷ 0 ∷ 9 ∷ 0 ∷ 0 ∷ []) gives 43)
    ∷ (hours (1 ∷ 0 ∷ 9 ∷ 0 ∷ 9 ∷ 5 ∷ []) gives 43)
    ∷ (hours (2 ∷ 0 ∷ 0 ∷ 0 ∷ 9 ∷ 0 ∷ 8 ∷ 0 ∷ 20 ∷ []) gives 43)
    -- of one window 44 before 45: it starts before the preceding one ends, and is empty
    ∷ (hours (2 ∷ 0 ∷ 0 ∷ 0 ∷ 9 ∷ 0 ∷ 8 ∷ 0 ∷ 8 ∷ 0 ∷ []) gives 44)
    -- window by window: 45 of an earlier window before 44 of a later one, of the same template and of another
    ∷ (hours (3 ∷ 0 ∷ 0 ∷ 0 ∷ 9 ∷ 0 ∷ 8 ∷ 0 ∷ 20 ∷ 0 ∷ 30 ∷ 0 ∷ 30 ∷ 0 ∷ []) gives 45)
    ∷ (hours (2 ∷ 0 ∷ 0 ∷ 0 ∷ 9 ∷ 0 ∷ 8 ∷ 0 ∷ 20 ∷ 1 ∷ 0 ∷ 9 ∷ 0 ∷ 9 ∷ []) gives 45)
    -- and 44 of an earlier one before 45 of a later one
    ∷ (hours (1 ∷ 0 ∷ 9 ∷ 0 ∷ 9 ∷ 2 ∷ 0 ∷ 0 ∷ 0 ∷ 9 ∷ 0 ∷ 8 ∷ 0 ∷ 20 ∷ []) gives 44)
    ∷ []

pub refusals : map (λ (c : Case). read_hours 2 c.bytes) damaged ≡ map (λ (c : Case). refused c.first) damaged
unfolding starts_with times count opens minute an_interval some_intervals tested all_tested read_hours
refusals = refl

-- The first window of a template has none before it: it may start where it will, whatever the template before it has.
pub own_order : read_hours 2 (hours (1 ∷ 0 ∷ 8 ∷ 0 ∷ 9 ∷ 1 ∷ 0 ∷ 0 ∷ 0 ∷ 1 ∷ [])) ≡ accepted (((8 to 9) ∷ []) ∷ ((0 to 1) ∷ []) ∷ [])
unfolding starts_with times count opens minute an_interval some_intervals tested all_tested read_hours
own_order = refl

-- the longest file, 277 bytes: 16 templates of four windows
abbrev longest : List ℕ
longest = hours (each (from 0 16) (λ i. 4 ∷ 0 ∷ 1 ∷ 0 ∷ 2 ∷ 0 ∷ 3 ∷ 0 ∷ 4 ∷ 0 ∷ 5 ∷ 0 ∷ 6 ∷ 0 ∷ 7 ∷ 0 ∷ 8 ∷ []))

pub longest_accepted : (length longest ≡ 277) × (read_hours 16 longest ≡ accepted (each (from 0 16) (λ i. ((1 to 2) ∷ (3 to 4) ∷ (5 to 6) ∷ (7 to 8) ∷ []) ∷ [])))
unfolding starts_with times each from count opens minute an_interval some_intervals tested all_tested read_hours
longest_accepted = (refl, refl)

-- Two templates with these windows, and whether they share a minute.
pub record Two : Type 0 where
  pub one : List Interval
  pub other : List Interval
  pub shared : Bool

abbrev two : List Interval → List Interval → Bool → Two
two vs ws r = record { one = vs; other = ws; shared = r }

abbrev weeks : List Two
weeks =
    -- one window ends where another starts, either way round
    (two ((540 to 1050) ∷ []) ((1050 to 1051) ∷ []) false)
    ∷ (two ((1050 to 1051) ∷ []) ((540 to 1050) ∷ []) false)
    -- by one minute, either way round
    ∷ (two ((540 to 1050) ∷ []) ((1049 to 1051) ∷ []) true)
    ∷ (two ((1049 to 1051) ∷ []) ((540 to 1050) ∷ []) true)
    -- one contains the other; they are the same
    ∷ (two ((540 to 1050) ∷ []) ((600 to 601) ∷ []) true)
    ∷ (two ((600 to 601) ∷ []) ((540 to 1050) ∷ []) true)
    ∷ (two ((600 to 601) ∷ []) ((600 to 601) ∷ []) true)
    -- the first minute of the week and the last: the week does not go round
    ∷ (two ((0 to 1) ∷ []) ((0 to 10080) ∷ []) true)
    ∷ (two ((10079 to 10080) ∷ []) ((0 to 10080) ∷ []) true)
    ∷ (two ((10079 to 10080) ∷ []) ((0 to 1) ∷ []) false)
    -- a later window alone, of the one, of the other, of both
    ∷ (two ((0 to 1) ∷ (5 to 6) ∷ []) ((5 to 6) ∷ []) true)
    ∷ (two ((5 to 6) ∷ []) ((0 to 1) ∷ (5 to 6) ∷ []) true)
    ∷ (two ((0 to 1) ∷ (5 to 6) ∷ []) ((1 to 5) ∷ (6 to 7) ∷ []) false)
    ∷ (two ((0 to 1) ∷ (5 to 7) ∷ []) ((1 to 5) ∷ (6 to 7) ∷ []) true)
    -- no windows: of the one, of the other, of both
    ∷ (two [] ((0 to 10080) ∷ []) false)
    ∷ (two ((0 to 10080) ∷ []) [] false)
    ∷ (two [] [] false)
    ∷ []

pub shares : map (λ (t : Two). share (t.one ∷ t.other ∷ []) 0 1) weeks ≡ map (λ (t : Two). t.shared) weeks
unfolding share sent any from
shares = refl

-- and by the ends
pub overlapping : map (λ (t : Two). overlaps t.one t.other) weeks ≡ map (λ (t : Two). t.shared) weeks
unfolding overlaps any
overlapping = refl

-- A, A, A and B: the first three clash with each other. The first is sent in the first hour, the second in the next, the third in the last minute of the one and
-- the first of the other.
abbrev four : Book
four = record {
  letters = 65 ∷ 66 ∷ [];
  templates =
      record { limits = []; symbols = letter 0 ∷ [] }
      ∷ record { limits = []; symbols = letter 0 ∷ [] }
      ∷ record { limits = []; symbols = letter 0 ∷ [] }
      ∷ record { limits = []; symbols = letter 1 ∷ [] }
      ∷ [];
}

pub list_of_four : (list_bytes (clashing four) ≡ 0 ∷ 1 ∷ 0 ∷ 2 ∷ 1 ∷ 2 ∷ [])
    × (list_bytes (sharing four (((0 to 60) ∷ []) ∷ ((60 to 120) ∷ []) ∷ ((59 to 61) ∷ []) ∷ ((0 to 10080) ∷ []) ∷ [])) ≡ 0 ∷ 2 ∷ 1 ∷ 2 ∷ [])
unfolding list_bytes sharing clashing share sent pairs keep each from asked solvable substitutions all_texts any all solves equation_holds constraint_holds same_letter same_word keeps same spell
list_of_four = (refl, refl)
