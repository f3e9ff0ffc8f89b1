-- What is asked of the search: lengths in ranges, and some of a sheet's equations and constraints.
use Rattle.std.specs.Prelude.{◌≡◌, Bool, true, List, ℕ, ◌<◌, ◌≤◌, get_or, Option, MatchOption}
use Rattle.model.specs.Lists.{All}
use Rattle.model.specs.Sheet.{Sheet, limit, sheet_of}
use Rattle.model.specs.Word.{Substitution, Legal, EquationHolds, ConstraintHolds}
use Rattle.model.specs.Order.{Earlier}
use Rattle.fields.specs.declared.Field.{Field}
use Rattle.fields.specs.Memory.{meaning, Held}
use Rattle.inequalities.specs.Asked.{asked, lengths_of}
use Rattle.inequalities.specs.Rows.{Within}
use Rattle.bounds.specs.Bounds.{Some}
use Rattle.question.specs.declared.Ask.{Ask}

-- ranges that are not empty, within the limits (0 for fields that the sheet does not have)
pub record Asking (s : Sheet) (a : Ask) : Type 0 where
  pub ranges : Some a.ranges.lo a.ranges.hi
  pub limited : (f : ℕ) → f < 6 → get_or a.ranges.hi f 0 ≤ limit s f

-- g is a legal substitution with lengths in the ranges, under which the asked equations and constraints hold
pub record Answers (s : Sheet) (a : Ask) (g : Substitution) : Type 0 where
  pub is_legal : Legal s g
  pub within : Within a.ranges.lo a.ranges.hi (lengths_of g)
  pub equations_hold : All (EquationHolds s g) (asked a.equations s.equations)
  pub constraints_hold : All (ConstraintHolds s g) (asked a.constraints s.constraints)

-- what is found holds such a substitution, and if the first is asked for, none comes before it
pub record FoundOne (b : List ℕ) (a : Ask) (first : Bool) (h : List Field) : Type 0 where
  pub held : Held b h
  pub answer : Answers (sheet_of b) a (meaning b h)
  pub earliest : first ≡ true → (g : Substitution) → Answers (sheet_of b) a g → Earlier g (meaning b h) → ⊥

-- where nothing is found there is none
abbrev pub Finds : List ℕ → Ask → Bool → Option (List Field) → Type 0
Finds b a first r = MatchOption r ((g : Substitution) → Answers (sheet_of b) a g → ⊥) (FoundOne b a first)
