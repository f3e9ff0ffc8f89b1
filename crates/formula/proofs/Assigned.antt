-- Assignments, computed: of some sheets every assignment that satisfies the clauses, found by trying all, and what each spells.
-- The expected ones were found by another program, in clause files that were worked out from document 01 alone. Assumes nothing.
use mathlib.Core.Path.{◌≡◌, refl}
use mathlib.Core.Bool.{Bool, true}
use mathlib.Core.List.{List, [], ◌∷◌, ◌++◌, map}
use Prim.Native.Nat.{ℕ}
use lib.Dec.{eqb}
use lib.ListN.{length}
use Rattle.model.specs.Lists.{each, from, up_to, any, all, keep, total}
use Rattle.model.specs.Sheet.{letter, field, Sheet, limit}
use Rattle.model.specs.Word.{Substitution}
use Rattle.model.specs.Cells.{cells}
use Rattle.formula.specs.Clause.{terms, left_out, literals, least, spread, sums, place_ids, location_ids, equation_ids, constraint_ids, listed, ids, fields}
use Rattle.formula.specs.Numbering.{k_variables, s_variables, t_variables, variables, number, clause}
use Rattle.formula.specs.Dimacs.{digits, decimal, clause_line, line, numbers_from}
use Rattle.formula.specs.Assignment.{Assignment, satisfied, true_values, up_to_blank, spelled}
use Rattle.formula.proofs.ClauseFiles.{P, minus}

-- the assignment that makes just these true
abbrev trues : List ℕ → Assignment
trues ns n = any (eqb n) ns

-- all choices of some of the numbers
unfoldable pub choices : List ℕ → List (List ℕ)
choices [] = [] ∷ []
choices (n ∷ ns) = choices ns ++ map (λ c. n ∷ c) (choices ns)

-- those choices of a sheet's variables that satisfy its clauses
abbrev satisfying : Sheet → List (List ℕ)
satisfying s = keep (λ ns. satisfied s (trues ns)) (choices (from 1 (length (variables s))))

pub record Found : Type 0 where
  pub sheet : Sheet
  assignments : List (List ℕ)
  pub substitutions : List Substitution

abbrev pub found : List Found
found =
    -- document 01's sheet P
    record { sheet = P; assignments = (1 ∷ 3 ∷ 6 ∷ []) ∷ []; substitutions = ((0 ∷ []) ∷ []) ∷ [] }
    -- a field against nothing, and one that no template uses: it is blank or the letter
    ∷ record {
      sheet = record {
        letters = 65 ∷ [];
        limits = 1 ∷ 1 ∷ [];
        equations = record { left = field 0 ∷ []; right = [] } ∷ [];
        constraints = [];
      };
      assignments = (2 ∷ 4 ∷ 5 ∷ 6 ∷ []) ∷ (2 ∷ 3 ∷ 5 ∷ 6 ∷ []) ∷ [];
      substitutions = ([] ∷ [] ∷ []) ∷ ([] ∷ (0 ∷ []) ∷ []) ∷ [];
    }
    -- a field that a constraint asks to be one letter long or more: a sum that is not reached may be true
    ∷ record {
      sheet = record {
        letters = 65 ∷ [];
        limits = 2 ∷ [];
        equations = record { left = []; right = [] } ∷ [];
        constraints = record { coefficients = minus 1 ∷ []; most = minus 1 } ∷ [];
      };
      assignments =
          (1 ∷ 4 ∷ 5 ∷ 6 ∷ 8 ∷ []) ∷ (1 ∷ 4 ∷ 5 ∷ 6 ∷ 7 ∷ 8 ∷ []) ∷ (1 ∷ 3 ∷ 5 ∷ 6 ∷ 7 ∷ []) ∷ (1 ∷ 3 ∷ 5 ∷ 6 ∷ 7 ∷ 8 ∷ []) ∷ [];
      substitutions = ((0 ∷ []) ∷ []) ∷ ((0 ∷ []) ∷ []) ∷ ((0 ∷ 0 ∷ []) ∷ []) ∷ ((0 ∷ 0 ∷ []) ∷ []) ∷ [];
    }
    -- a letter against nothing
    ∷ record {
      sheet = record {
        letters = 65 ∷ [];
        limits = 1 ∷ [];
        equations = record { left = field 0 ∷ letter 0 ∷ []; right = [] } ∷ [];
        constraints = [];
      };
      assignments = [];
      substitutions = [];
    }
    ∷ []

pub all_satisfying : map (λ (c : Found). satisfying c.sheet) found ≡ map (λ (c : Found). c.assignments) found
unfolding all each from any keep total cells terms left_out literals least spread sums place_ids location_ids equation_ids constraint_ids listed ids number clause k_variables s_variables t_variables variables digits decimal clause_line line numbers_from satisfied choices
all_satisfying = refl

-- each place has just one value, in the field that no template uses too
abbrev one_everywhere : Sheet → Assignment → Bool
one_everywhere s w = all (λ f. all (λ c. eqb (length (true_values s w f c)) 1) (up_to (limit s f))) (up_to (fields s))

pub all_one_value : all (λ (c : Found). all (λ (ns : List ℕ). one_everywhere c.sheet (trues ns)) c.assignments) found ≡ true
unfolding all from any keep total number true_values
all_one_value = refl

pub all-spelled : map (λ (c : Found). map (λ (ns : List ℕ). spelled c.sheet (trues ns)) c.assignments) found ≡ map (λ (c : Found). c.substitutions) found
unfolding from any keep total number true_values up_to_blank spelled
all-spelled = refl

-- of an assignment with a letter after a blank, which satisfies nothing: the text ends at the blank
pub blank-ends : spelled (record { letters = 65 ∷ []; limits = 3 ∷ []; equations = []; constraints = [] }) (trues (1 ∷ 4 ∷ 5 ∷ [])) ≡ (0 ∷ []) ∷ []
unfolding from any keep total number true_values up_to_blank spelled
blank-ends = refl
