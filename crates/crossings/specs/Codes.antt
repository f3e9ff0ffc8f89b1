-- The lines of a location by the codes of their literals, each worked out from a few codes: those of K(f,c,0) and of S(p,i,j). `Located.antt` of the
-- proofs of `locations` shows that these are the lines of the model's clauses.
use Rattle.std.specs.Prelude.{List, [], ◌∷◌, ◌++◌, ℕ, ◌+◌, ◌-◌, ◌*◌, ◌≤◌, eqb}
use Rattle.model.specs.Lists.{pick, each, up_to}
use Rattle.formula.specs.Kind.{Side, used, at_letter, at_field}
use Rattle.dimacs.specs.Codes.{codes_line, large_code}
use Rattle.matching.specs.Codes.{unlike_line, match_line}

-- The lines of a location, by what stands on its right, which is of code y where it is a place; `down` leads from a location to that below
-- it. On the left stands nothing, letter a, or a place of code x.
abbrev pub past_lines : ℕ → ℕ → Side → ℕ → List ℕ
past_lines l here used y = []
past_lines l here (at_letter b) y = codes_line ((here + 1) ∷ [])
past_lines l here at_field y = codes_line ((here + 1) ∷ (y + 2 * l + 1) ∷ (here + 2) ∷ []) ++ codes_line ((here + 1) ∷ (y + 2 * l) ∷ [])

abbrev pub letter_lines : ℕ → ℕ → ℕ → ℕ → Side → ℕ → List ℕ
letter_lines l down here a used y = codes_line ((here + 1) ∷ [])
letter_lines l down here a (at_letter b) y = codes_line ((here + 1) ∷ (here + down + 2) ∷ []) ++ pick (eqb a b) [] (codes_line ((here + 1) ∷ []))
letter_lines l down here a at_field y =
    codes_line ((here + 1) ∷ (y + 2 * l + 1) ∷ (here + 2) ∷ [])
    ++ (codes_line ((here + 1) ∷ (y + 2 * l) ∷ (here + down + 2) ∷ [])
    ++ codes_line ((here + 1) ∷ (y + 2 * l) ∷ (y + 2 * a) ∷ []))

abbrev pub open_lines : ℕ → ℕ → ℕ → ℕ → Side → ℕ → List ℕ
open_lines l down here x used y = codes_line ((here + 1) ∷ (x + 2 * l + 1) ∷ (here + down) ∷ []) ++ codes_line ((here + 1) ∷ (x + 2 * l) ∷ [])
open_lines l down here x (at_letter b) y =
    codes_line ((here + 1) ∷ (x + 2 * l + 1) ∷ (here + down) ∷ [])
    ++ (codes_line ((here + 1) ∷ (x + 2 * l) ∷ (here + down + 2) ∷ [])
    ++ (each (up_to b) (unlike_line here x 0)
    ++ each (up_to (l - b - 1)) (unlike_line here x (b + 1))))
open_lines l down here x at_field y =
    codes_line ((here + 1) ∷ (x + 2 * l + 1) ∷ (here + down) ∷ [])
    ++ (codes_line ((here + 1) ∷ (x + 2 * l) ∷ (y + 2 * l + 1) ∷ (here + 2) ∷ [])
    ++ (codes_line ((here + 1) ∷ (x + 2 * l) ∷ (y + 2 * l) ∷ (here + down + 2) ∷ [])
    ++ each (up_to l) (match_line l here x y)))

abbrev pub cross_lines : ℕ → ℕ → ℕ → Side → ℕ → Side → ℕ → List ℕ
cross_lines l down here used x v y = past_lines l here v y
cross_lines l down here (at_letter a) x v y = letter_lines l down here a v y
cross_lines l down here at_field x v y = open_lines l down here x v y

-- what is asked of these numbers, so that none of the codes is too large
pub record Crossed (l down here x y : ℕ) : Type 0 where
  pub letters : l ≤ 8
  pub row : down ≤ 50
  pub at_here : here ≤ large_code
  pub at_left : x ≤ large_code
  pub at_right : y ≤ large_code
