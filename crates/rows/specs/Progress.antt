-- How far a row came, in the model's words. What was read is not said again: the bytes passed over say it.
use Rattle.std.specs.Prelude.{◌≡◌, List, ℕ, ◌≤◌, length, drop, Result, Ok, Err}
use Rattle.model.specs.Sheet as model
use Rattle.model.specs.Sheet.{Step, got, fault, letter_byte, limit_byte, count_byte, template_byte, coefficient_byte, most_byte}
use Rattle.rows.specs.declared.Fault.{Fault}
use Rattle.rows.specs.declared.Fault.TheVariants as faults
use Rattle.rows.specs.declared.Role.{Role}
use Rattle.rows.specs.declared.Role.TheVariants.{Letter, Limit, SymbolCount, Symbol, Coefficient, Most}

-- "8 the next byte needed is missing; 10 letter out of range or not rising; 11 limit; 12 symbol count; 13 symbol; 14 width ..; 15 coefficient"
abbrev pub number_of : Fault → ℕ
number_of faults.Missing = 8
number_of faults.Letter = 10
number_of faults.Limit = 11
number_of faults.SymbolCount = 12
number_of faults.Symbol = 13
number_of faults.Width = 14
number_of faults.Coefficient = 15

abbrev pub role_of : Role → model.Role
role_of Letter = letter_byte
role_of Limit = limit_byte
role_of SymbolCount = count_byte
role_of (Symbol l v) = template_byte l v
role_of Coefficient = coefficient_byte
role_of Most = most_byte

-- the bytes that are left, or the fault
abbrev pub left : List ℕ → Result ℕ Fault → Step Unit
left b (Ok e) = got tt (drop e b)
left b (Err f) = fault (number_of f)

-- an offset that was reached is this one, and within the sheet
abbrev pub HasLanded : List ℕ → ℕ → Result ℕ Fault → Type 0
HasLanded b n (Ok e) = (e ≡ n) × (n ≤ length b)
HasLanded b n (Err f) = Unit

abbrev pub within : List ℕ → Result ℕ Fault → Type 0
within b (Ok e) = e ≤ length b
within b (Err f) = Unit
