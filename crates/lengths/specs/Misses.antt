-- What is told of a box by an answer that may be none.
use Rattle.std.specs.Prelude.{Option, IsNone, List, ℕ}
use Rattle.fields.specs.declared.Field.{Field}

-- where r is none, nothing in the class succeeds
abbrev pub Misses : (List ℕ → Option (List Field)) → (List ℕ → Type 0) → Option (List Field) → Type 0
Misses try C r = IsNone r → (m : List ℕ) → C m → IsNone (try m)
