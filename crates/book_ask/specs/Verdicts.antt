-- What is remembered of a book's templates: the verdicts that are known are right.
use Rattle.std.specs.Prelude.{◌≡◌, Bool, true, false, List, ℕ, ◌+◌, ◌*◌, ◌<◌, length, get_or}
use Rattle.book.specs.Book.{Book}
use Rattle.book.specs.Pairs.{clash}

-- 1 for apart, 2 for a clash; any other byte says nothing
abbrev pub Says : ℕ → Bool → Type 0
Says v c = (v ≡ 1 → c ≡ false) × (v ≡ 2 → c ≡ true)

-- 16 rows of 16 bytes
pub record Remembers (k : Book) (verdicts : List ℕ) : Type 0 where
  pub long : length verdicts ≡ 256
  pub right : (a b : ℕ) → b < 16 → Says (get_or verdicts (a * 16 + b) 0) (clash k a b)
