-- The lines of a row of locations by the codes of their literals. `Rows.antt` of the proofs shows that these are the lines of the model's clauses.
use Rattle.std.specs.Prelude.{List, ℕ, ◌+◌, ◌*◌, ◌<◌, ◌≤◌, get_or}
use Rattle.model.specs.Lists.{each, up_to}
use Rattle.formula.specs.Kind.{SideIn}
use Rattle.shape.specs.Bytes.{side_of}
use Rattle.dimacs.specs.Codes.{most_code}
use Rattle.crossings.specs.Codes.{cross_lines}

-- A row of n locations with the byte u on the left, the first of code `here`; `right` and ys have the bytes and the codes of the right side.
unfoldable pub row_of : ℕ → ℕ → ℕ → ℕ → ℕ → List ℕ → List ℕ → List ℕ
row_of l n here u x right ys = each (up_to n) (λ j. cross_lines l (2 * n) (here + 2 * j) (side_of u) x (side_of (get_or right j 0)) (get_or ys j 0))

pub record Rowed (l n here x : ℕ) (right ys : List ℕ) : Type 0 where
  pub letters : l ≤ 8
  pub row : n ≤ 25
  pub at_here : here ≤ most_code
  pub at_left : x ≤ most_code
  pub at_right : (j : ℕ) → j < n → get_or ys j 0 ≤ most_code
  pub sides : (j : ℕ) → j < n → SideIn l (side_of (get_or right j 0))
