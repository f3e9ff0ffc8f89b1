-- What is left over (document 02, No. 5): the comparison of two texts, and what a substitution comes to: a solution, or the first cause why it is none.
use Rattle.std.specs.Prelude.{Bool, true, false, List, [], ◌∷◌, ℕ, suc, ltb, length, drop}
use Rattle.model.specs.Lists.{pick, leading}
use Rattle.model.specs.Sheet.{Sheet, equation}
use Rattle.model.specs.Word.{Substitution, spell, same_letter, equation_holds, constraint_holds}

-- "The comparison of two texts now gives how many letters agree from the start,"
unfoldable pub agreeing : Sheet → List ℕ → List ℕ → ℕ
agreeing s [] w = 0
agreeing s (a ∷ u) [] = 0
agreeing s (a ∷ u) (b ∷ w) = pick (same_letter s a b) (suc (agreeing s u w)) 0

-- "and the unmatched rest of the left or right text is handed over. It is the left rest, unless the left text is used up; then it is the right rest, which
-- may be empty." The side is 0 for left and 1 for right, as in document 01.
abbrev pub left_left : Sheet → List ℕ → List ℕ → Bool
left_left s u w = ltb (agreeing s u w) (length u)

abbrev pub rest_side : Sheet → List ℕ → List ℕ → ℕ
rest_side s u w = pick (left_left s u w) 0 1

abbrev pub rest_word : Sheet → List ℕ → List ℕ → List ℕ
rest_word s u w = drop (agreeing s u w) (pick (left_left s u w) u w)

-- "Checking a filling gives, for the first pair that differs, the pair's number, the count of agreeing letters, and the side and length of the rest; or else the
-- number of the first rule broken."
pub data Judgement : Type 0 where
  solution : Judgement
  differs : ℕ → ℕ → ℕ → ℕ → Judgement
  breaks : ℕ → Judgement

abbrev pub is_solution : Judgement → Bool
is_solution solution = true
is_solution (differs p n side rest) = false
is_solution (breaks r) = false

-- what is told of two texts that differ, those of pair p
abbrev pub difference : Sheet → ℕ → List ℕ → List ℕ → Judgement
difference s p u w = differs p (agreeing s u w) (rest_side s u w) (length (rest_word s u w))

-- the first pair that differs, and the first rule broken: how many there are before it
abbrev pub first_pair : Sheet → Substitution → ℕ
first_pair s g = leading (equation_holds s g) s.equations

abbrev pub first_rule : Sheet → Substitution → ℕ
first_rule s g = leading (constraint_holds s g) s.constraints

unfoldable pub judged : Sheet → Substitution → Judgement
judged s g =
    pick (ltb (first_pair s g) (length s.equations)) (difference s (first_pair s g) (spell g (equation s (first_pair s g)).left) (spell g (equation s (first_pair s g)).right))
    (pick (ltb (first_rule s g) (length s.constraints)) (breaks (first_rule s g))
    solution)
