-- Which pairs are listed: those that clash, of the pairs that a table wants. It has 16 rows of 16 bytes, and wants i and j where a byte that is not 0 stands in
-- row i, at j.
use Rattle.std.specs.Prelude.{Bool, not, ◌&&◌, List, ℕ, ◌+◌, ◌*◌, eqb, get_or}
use Rattle.book.specs.Book.{Book}
use Rattle.book.specs.Pairs.{clash}

unfoldable pub wants : List ℕ → ℕ → ℕ → Bool
wants table i j = not (eqb (get_or table (i * 16 + j) 0) 0)

unfoldable pub listed : List ℕ → Book → ℕ → ℕ → Bool
listed table k i j = clash k i j && wants table i j
