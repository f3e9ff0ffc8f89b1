-- The question of a whole sheet, and what settles it.
use Rattle.std.specs.Prelude.{◌≡◌, Bool, true, List, [], ◌∷◌, ℕ, ◌<◌, get_or, Option, MatchOption}
use Rattle.model.specs.Sheet.{Sheet, limit, sheet_of}
use Rattle.model.specs.Word.{Solves}
use Rattle.model.specs.Order.{IsFirst}
use Rattle.fields.specs.declared.Field.{Field}
use Rattle.fields.specs.Memory.{meaning, Held}
use Rattle.balance.specs.Balance.{Unsolvable}
use Rattle.question.specs.declared.Ask.{Ask}

-- all four are marked
abbrev pub all_marked : List Bool
all_marked = true ∷ true ∷ true ∷ true ∷ []

-- every length from 0 to its field's limit, and all equations and constraints
pub record Whole (s : Sheet) (a : Ask) : Type 0 where
  pub from_none : (f : ℕ) → f < 6 → get_or a.ranges.lo f 0 ≡ 0
  pub to_limits : (f : ℕ) → f < 6 → get_or a.ranges.hi f 0 ≡ limit s f
  pub all_equations : a.equations ≡ all_marked
  pub all_constraints : a.constraints ≡ all_marked

-- what is found holds a solution, the first where that is asked
pub record Solved (b : List ℕ) (first : Bool) (h : List Field) : Type 0 where
  pub held : Held b h
  pub solution : Solves (sheet_of b) (meaning b h)
  pub is_first : first ≡ true → IsFirst (sheet_of b) (meaning b h)

-- where nothing is found there is none
abbrev pub Settles : List ℕ → Bool → Option (List Field) → Type 0
Settles b first r = MatchOption r (Unsolvable (sheet_of b)) (Solved b first)
