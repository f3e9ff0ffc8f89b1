-- What the faults and answers of this crate say in document 01's numbers.
use Rattle.std.specs.Prelude.{◌≡◌, List, ℕ, ◌-◌, ◌<◌, length, Result, Ok, Err}
use Rattle.formula.specs.Assignment.{truth}
use Rattle.calls.specs.Reply.{assigned}
use Rattle.calls.specs.Calls.{Answer, refused, formed}
use Rattle.listing.specs.declared.Fault.{Fault}
use Rattle.listing.specs.declared.Fault.TheVariants.{End, Line, Status, Closing, Above, Twice}

-- "31 not empty and the last byte is not 0x0A; 32 a line of no known form; 33 not just one s line, or a v line before it; 34 no number 0, or
-- a number after it; 35 magnitude above the variable count; 36 a variable given twice"
abbrev pub number_of : Fault → ℕ
number_of End = 31
number_of Line = 32
number_of Status = 33
number_of Closing = 34
number_of Above = 35
number_of Twice = 36

-- A text with n marks, which are for the numbers from 0 to the variable count: it is refused, or goes on, and then the marks say what it makes
-- true.
abbrev pub Form : ℕ → List ℕ → Result Unit Fault → List ℕ → Type 0
Form n t (Ok _) m =
    ((go : Answer) → formed (n - 1) t go ≡ go) × (length m ≡ n) × ((k : ℕ) → k < n → truth m k ≡ assigned t k)
Form n t (Err f) m = (go : Answer) → formed (n - 1) t go ≡ refused (number_of f)
