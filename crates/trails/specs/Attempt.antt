-- One attempt of the search: the lengths of the fields are fixed, and the letters are found by unification.
use Rattle.std.specs.Prelude.{Option, List, ℕ}
use Rattle.std.specs.Result.{result_ok}
use Rattle.std.specs.declared.result.Result.{Result}
use Rattle.std.specs.declared.result.Result.TheVariants.{Ok, Err}
use Rattle.fields.specs.declared.Field.{Field}
use Rattle.unification.specs.Names.{settle, app}
use Rattle.walk.specs.Reading.{start_of}
use Rattle.trails.specs.declared.Trail.{Trail}
use Rattle.trails.specs.Equations.{Equation}
use Rattle.trails.specs.Trail.{walk_all, no_cells}

-- the box of the lengths n alone: no place is open, no letter is known, and no cell is passed
abbrev pub start_trail : List ℕ → Trail
start_trail n = record { last = 4; substitution = start_of n; at = no_cells }

-- every name that is left takes letter 0, where no equation has failed
abbrev pub settled_trail : Result Trail Trail → Result (List Field) (List Field)
settled_trail (Err t) = Err t.substitution
settled_trail (Ok t) = Ok (app settle t.substitution)

unfoldable pub attempt_of : List Equation → List ℕ → Result (List Field) (List Field)
attempt_of es n = settled_trail (walk_all es 0 (start_trail n))

-- what it answers, if it succeeds
abbrev pub answer_of : List Equation → List ℕ → Option (List Field)
answer_of es n = result_ok (attempt_of es n)
