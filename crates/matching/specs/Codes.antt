-- Lines that go through the values of a place, by the codes of their literals.
use Rattle.std.specs.Prelude.{List, [], ◌∷◌, ℕ, ◌+◌, ◌*◌}
use Rattle.dimacs.specs.Codes.{codes_line}

-- Not what has code `here` and value n + k of the place with code x: at a location document 01's E of a place against a letter. E of that place against
-- one with code y, for letter a of l.
unfoldable pub unlike_line : ℕ → ℕ → ℕ → ℕ → List ℕ
unlike_line here x n k = codes_line ((here + 1) ∷ (x + 2 * (n + k) + 1) ∷ [])

unfoldable pub match_line : ℕ → ℕ → ℕ → ℕ → ℕ → List ℕ
match_line l here x y a = codes_line ((here + 1) ∷ (y + 2 * l) ∷ (x + 2 * a + 1) ∷ (y + 2 * a) ∷ [])
