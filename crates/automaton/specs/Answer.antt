-- What the enums of this crate say in document 01's numbers.
use Rattle.std.specs.Prelude.{true, false, ℕ, Result, Ok, Err}
use Rattle.calls.specs.Calls.{Answer, refused, verdict}
use Rattle.sheet.specs.Answer as sheet
use Rattle.automaton.specs.declared.Refusal.{Refusal}
use Rattle.automaton.specs.declared.Refusal.TheVariants.{Sheet, Room}
use Rattle.automaton.specs.declared.Verdict.{Verdict}
use Rattle.automaton.specs.declared.Verdict.TheVariants as found

-- "27 buffer shorter than 9 × V"
abbrev pub number_of : Refusal → ℕ
number_of (Sheet f) = sheet.number_of f
number_of Room = 27

-- clash, or apart
abbrev pub verdict_of : Verdict → Answer
verdict_of found.Solution = verdict true
verdict_of found.Unsatisfiable = verdict false

abbrev pub searched : Result Verdict Refusal → Answer
searched (Ok v) = verdict_of v
searched (Err f) = refused (number_of f)
