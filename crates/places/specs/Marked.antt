-- Marks for a sheet.
use Rattle.std.specs.Prelude.{◌≡◌, List, ℕ, suc, length}
use Rattle.model.specs.Sheet.{sheet_of}
use Rattle.model.specs.Range.{Admitted}
use Rattle.formula.specs.Numbering.{variables}

-- an accepted sheet, and a mark for 0 and for each of its variables
abbrev pub Marked : List ℕ → List ℕ → Type 0
Marked b m = Admitted b × (length m ≡ suc (length (variables (sheet_of b))))
