-- What the enums of this crate say in document 01's numbers.
use Rattle.std.specs.Prelude.{List, ℕ, drop, Result, Ok, Err}
use Rattle.model.specs.Sheet as model
use Rattle.model.specs.Sheet.{Step, got, fault}
use Rattle.model.specs.Range.{InRange}
use Rattle.calls.specs.Calls.{Answer, refused, finished, four_counts}
use Rattle.sheet.specs.declared.Refusal.{Refusal}
use Rattle.sheet.specs.declared.Refusal.TheVariants.{Short, Mark, Version, LetterCount, FieldCount, EquationCount, ConstraintCount, Missing, LeftOver, Letter, Limit, SymbolCount, Symbol, Width, Coefficient}
use Rattle.parts.specs.Counts.{counts_of}
use Rattle.parts.specs.declared.Counts.{Counts}

-- "1 under 9 bytes; 2 mark; 3 version; 4 L; 5 V; 6 E; 7 R. .. 8 the next byte needed is missing; 10 letter out of range or not rising; 11 limit;
-- 12 symbol count; 13 symbol; 14 width ..; 15 coefficient. 9 comes last: bytes left over."
abbrev pub number_of : Refusal → ℕ
number_of Short = 1
number_of Mark = 2
number_of Version = 3
number_of LetterCount = 4
number_of FieldCount = 5
number_of EquationCount = 6
number_of ConstraintCount = 7
number_of Missing = 8
number_of LeftOver = 9
number_of Letter = 10
number_of Limit = 11
number_of SymbolCount = 12
number_of Symbol = 13
number_of Width = 14
number_of Coefficient = 15

-- "The answer is the four counts."
abbrev pub answer : Result Counts Refusal → Answer
answer (Ok c) = finished (four_counts (counts_of c))
answer (Err f) = refused (number_of f)

-- the same type as the answer of a header alone
abbrev pub opening_of : List ℕ → Result Counts Refusal → Step model.Counts
opening_of b (Ok c) = got (counts_of c) (drop 9 b)
opening_of b (Err f) = fault (number_of f)

-- an accepted sheet is within document 01's ranges
abbrev pub IsAdmitted : List ℕ → Result Counts Refusal → Type 0
IsAdmitted b (Ok c) = model.Accepted b × InRange (model.sheet_of b)
IsAdmitted b (Err f) = Unit
