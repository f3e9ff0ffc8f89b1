-- Whether a sheet has a solution, as a test: every legal substitution in one list, and one of them that solves the sheet. `proofs/Solvable.antt`
-- shows that the list has just the legal substitutions, and that the test decides whether there is a solution.
use Rattle.std.specs.Prelude.{Bool, List, [], ◌∷◌, map, ℕ, zero, suc, length}
use Rattle.model.specs.Lists.{each, up_to, any}
use Rattle.model.specs.Sheet.{Sheet}
use Rattle.model.specs.Word.{Substitution, solves}

-- "A filling gives each field a text over the letters, no longer than its limit." Every text of at most n of l letters, the empty one among
-- them.
unfoldable pub all_texts : ℕ → ℕ → List (List ℕ)
all_texts l zero = [] ∷ []
all_texts l (suc n) = [] ∷ each (up_to l) (λ a. map (λ t. a ∷ t) (all_texts l n))

-- every way to give such texts to the fields, whose limits are listed
unfoldable pub substitutions : ℕ → List ℕ → List Substitution
substitutions l [] = [] ∷ []
substitutions l (n ∷ ns) = each (all_texts l n) (λ t. map (λ g. t ∷ g) (substitutions l ns))

abbrev pub every_legal : Sheet → List Substitution
every_legal s = substitutions (length s.letters) s.limits

-- "when there is a filling that clashes"
unfoldable pub solvable : Sheet → Bool
solvable s = any (solves s) (every_legal s)
