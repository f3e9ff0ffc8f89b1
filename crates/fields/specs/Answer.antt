-- What the faults and answers of this crate say in document 01's numbers.
use Rattle.std.specs.Prelude.{List, [], ℕ, drop, Result, Ok, Err}
use Rattle.model.specs.Sheet.{Step, got, fault}
use Rattle.fields.specs.declared.Fault.{Fault}
use Rattle.fields.specs.declared.Fault.TheVariants.{Size, Length, Letter, Past}

-- "20 not 9 × V bytes; .. 21 length above the limit, 22 letter number not below L, 23 a place past the length that is not 255"
abbrev pub number_of : Fault → ℕ
number_of Size = 20
number_of Length = 21
number_of Letter = 22
number_of Past = 23

-- what is left after one field, or its fault
abbrev pub left : List ℕ → Result Unit Fault → Step Unit
left b (Ok _) = got tt (drop 9 b)
left b (Err f) = fault (number_of f)

-- nothing is left after a whole filling
abbrev pub IsAdmitted : Result Unit Fault → Step Unit
IsAdmitted (Ok _) = got tt []
IsAdmitted (Err f) = fault (number_of f)
