-- What the answers of this crate say in document 01's numbers.
use Rattle.std.specs.Prelude.{[], ◌∷◌, ℕ, Result, Ok, Err}
use Rattle.calls.specs.Calls.{Answer, refused, finished}
use Rattle.sheet.specs.Answer as sheet
use Rattle.encoding.specs.declared.Refusal.{Refusal}
use Rattle.encoding.specs.declared.Refusal.TheVariants.{Sheet, Line, Room}

-- "28 n above C; 29 buffer shorter than the line"
abbrev pub number_of : Refusal → ℕ
number_of (Sheet f) = sheet.number_of f
number_of Line = 28
number_of Room = 29

-- "The answer is the line's length"
abbrev pub lined : Result ℕ Refusal → Answer
lined (Ok n) = finished (n ∷ [])
lined (Err f) = refused (number_of f)
