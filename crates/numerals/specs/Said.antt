-- What a piece of a v line says.
use Rattle.std.specs.Prelude.{◌≡◌, true, false, List, ◌∷◌, ◌++◌, ℕ, ◌≤◌, pos, neg_ℤ, Option, Some, None}
use Rattle.formula.specs.Dimacs.{numbers}
use Rattle.calls.specs.Reply.{is_number}
use Rattle.numerals.specs.declared.Number.{Number}
use Rattle.numerals.specs.declared.Number.TheVariants.{Plus, Minus}

-- A piece of a v line is a number, which is read off it and the space after it; or it is none.
abbrev pub Said : List ℕ → Option Number → Type 0
Said p (Some (Plus n)) = (is_number p ≡ true) × ((others : List ℕ) → numbers (p ++ (32 ∷ others)) ≡ pos n ∷ numbers others)
Said p (Some (Minus n)) =
    (is_number p ≡ true) × (1 ≤ n) × ((others : List ℕ) → numbers (p ++ (32 ∷ others)) ≡ neg_ℤ (pos n) ∷ numbers others)
Said p None = is_number p ≡ false
