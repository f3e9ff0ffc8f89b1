-- Equations as lists of cells, and what solves them.
use Rattle.std.specs.Prelude.{◌≡◌, List, [], ◌∷◌, ℕ, ◌+◌, take, drop}
use Rattle.fields.specs.declared.Field.{Field}
use Rattle.walk.specs.Walk.{word}

-- an equation: the cells of its two sides (document 01: a pair)
pub record Equation : Type 0 where
  pub left : List ℕ
  pub right : List ℕ

-- the equations whose cells stand one after the other in x, with their widths, left and right, in w
unfoldable pub equations : List ℕ → List ℕ → List Equation
equations x [] = []
equations x (m ∷ []) = []
equations x (m ∷ n ∷ w) = record { left = take m x; right = take n (drop m x) } ∷ equations (drop (m + n) x) w

-- the cells that the widths ask for
unfoldable pub cell_total : List ℕ → ℕ
cell_total [] = 0
cell_total (m ∷ []) = 0
cell_total (m ∷ n ∷ w) = m + n + cell_total w

-- g solves every equation
unfoldable pub Solves : List Equation → List Field → Type 0
Solves [] g = Unit
Solves (e ∷ es) g = (word g e.left ≡ word g e.right) × Solves es g
