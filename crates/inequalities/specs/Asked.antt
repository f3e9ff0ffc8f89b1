-- Which equations and constraints of a sheet are asked, by marks, and what they ask of the lengths of a substitution's texts alone.
use Rattle.std.specs.Prelude.{Bool, ◌&&◌, List, [], ◌∷◌, ◌++◌, map, ℕ, eqb, length}
use Rattle.model.specs.Lists.{up_to, all, when}
use Rattle.model.specs.Sheet.{Equation, Sheet}
use Rattle.model.specs.Word.{Substitution, text, spell, constraint_holds}

-- the elements whose mark is true: none past the last mark
unfoldable pub asked : {A : Type 0} → List Bool → List A → List A
asked [] xs = []
asked (m ∷ ms) [] = []
asked (m ∷ ms) (x ∷ xs) = when m (x ∷ []) ++ asked ms xs

-- the lengths of a substitution's texts, of six fields: 0 for those that a sheet does not have
unfoldable pub lengths_of : Substitution → List ℕ
lengths_of g = map (λ f. length (text g f)) (up_to 6)

-- whether both sides of an equation spell words of one length
abbrev pub sides_agree : Substitution → Equation → Bool
sides_agree g e = eqb (length (spell g e.left)) (length (spell g e.right))

-- whether the lengths are such that the asked equations and constraints can hold: every asked equation's sides agree in length, and every
-- asked constraint holds
unfoldable pub lengths_agree : Sheet → List Bool → List Bool → Substitution → Bool
lengths_agree s equations constraints g =
    all (sides_agree g) (asked equations s.equations) && all (constraint_holds s g) (asked constraints s.constraints)
