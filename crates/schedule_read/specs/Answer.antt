-- What the refusals of this crate say in document 02's numbers, and what reading answers.
use Rattle.std.specs.Prelude.{◌≡◌, List, ℕ, leb, ⊤, Result, Ok, Err}
use Rattle.model.specs.Lists.{pick}
use Rattle.schedule.specs.Schedule as model
use Rattle.schedule.specs.Schedule.{Interval, Schedule, refused, in_week, tested, all_tested, read_hours, Admitted}
use Rattle.schedule_read.specs.declared.Refusal.{Refusal}
use Rattle.schedule_read.specs.declared.Refusal.TheVariants.{File, Bounds, Order}

-- "43 when mark or version is wrong, .. . 44 when a start is not below its end .. . 45 when a window starts before the preceding one of its template ends."
abbrev pub number_of : Refusal → ℕ
number_of File = 43
number_of Bounds = 44
number_of Order = 45

-- how reading goes on after a test
abbrev pub outcome : Result ⊤ Refusal → model.Reading → model.Reading
outcome (Ok x) go = go
outcome (Err f) go = refused (number_of f)

-- the tests of one interval, with the least start, where the preceding one ends
abbrev pub TestsOne : ℕ → Interval → Result ⊤ Refusal → Type 0
TestsOne least w r = (go : model.Reading) → pick (in_week w) (pick (leb least w.start) go (refused 45)) (refused 44) ≡ outcome r go

-- those of a template's intervals, and of all
abbrev pub Tests : List Interval → Result ⊤ Refusal → Type 0
Tests ws r = (go : model.Reading) → tested 0 ws go ≡ outcome r go

abbrev pub TestsAll : Schedule → Result ⊤ Refusal → Type 0
TestsAll s r = (go : model.Reading) → all_tested s go ≡ outcome r go

abbrev pub Reads : ℕ → List ℕ → Result ⊤ Refusal → Type 0
Reads n b (Ok x) = Admitted n b
Reads n b (Err f) = read_hours n b ≡ refused (number_of f)
