-- What the answers of this crate say in document 01's numbers.
use Rattle.std.specs.Prelude.{List, [], ◌∷◌, ℕ, Result, Ok, Err}
use Rattle.calls.specs.Calls.{Answer, refused, finished}
use Rattle.sheet.specs.Answer as sheet
use Rattle.sheet.specs.declared.Refusal as sheet_refusal
use Rattle.filing.specs.declared.ClauseCounts.{ClauseCounts}
use Rattle.filing.specs.declared.Refusal.{Refusal}
use Rattle.filing.specs.declared.Refusal.TheVariants.{Sheet, Room}

-- 29 where the buffer is shorter than the file
abbrev pub number_of : Refusal → ℕ
number_of (Sheet f) = sheet.number_of f
number_of Room = 29

-- "the variable count, the clause count C," and the file's size
abbrev pub three_counts : ClauseCounts → List ℕ
three_counts c = c.variables ∷ c.clauses ∷ c.bytes ∷ []

abbrev pub counted : Result ClauseCounts sheet_refusal.Refusal → Answer
counted (Ok c) = finished (three_counts c)
counted (Err f) = refused (sheet.number_of f)

-- the answer is the file's length
abbrev pub filed : Result ℕ Refusal → Answer
filed (Ok n) = finished (n ∷ [])
filed (Err f) = refused (number_of f)
