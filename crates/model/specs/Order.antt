-- Document 02, No. 1: "The search is to give the first clash." The order of substitutions, over all fields, used in a template or not; and the first
-- solution of a sheet. `proofs/Order.antt` has the laws of the order, `proofs/ByFields.antt` says it once more by fields and places, and `proofs/First.antt`
-- has the laws of the first solution.
use Rattle.std.specs.Prelude.{◌≡◌, Bool, false, ◌&&◌, ◌||◌, List, [], ◌∷◌, ◌++◌, map, ◌⊎◌, ℕ, ◌+◌, ◌<◌, ltb, eqb, length}
use Rattle.model.specs.Lists.{pick, each, keep}
use Rattle.model.specs.Sheet.{Sheet}
use Rattle.model.specs.Word.{Substitution, Solves, solves}
use Rattle.model.specs.Solvable.{every_legal}

-- Lexicographic order: the first number in which two lists differ is lower in the first list. (Of a list and a longer one that starts with it neither is
-- lower.)
unfoldable pub Lex : List ℕ → List ℕ → Type 0
Lex [] ys = ⊥
Lex (x ∷ xs) [] = ⊥
Lex (x ∷ xs) (y ∷ ys) = (x < y) ⊎ ((x ≡ y) × Lex xs ys)

-- the total field length
unfoldable pub total_length : Substitution → ℕ
total_length [] = 0
total_length (t ∷ g) = length t + total_length g

-- the lengths of field 0, field 1 and so on; and all letter numbers, field by field from the left
abbrev pub field_lengths : Substitution → List ℕ
field_lengths g = map length g

unfoldable pub field_letters : Substitution → List ℕ
field_letters g = each g (λ t. t)

-- "The order is: least total field length; then the shorter field 0, field 1 and so on; then the lower letter numbers, field by field from the left."
-- The numbers by which substitutions of one sheet are compared, in this order, and which of two comes before the other.
unfoldable pub ranks : Substitution → List ℕ
ranks g = total_length g ∷ (field_lengths g ++ field_letters g)

abbrev pub Earlier : Substitution → Substitution → Type 0
Earlier g h = Lex (ranks g) (ranks h)

-- "When it answers clash, no clash comes before the one given.": g is a solution, and no solution comes before it
pub record IsFirst (s : Sheet) (g : Substitution) : Type 0 where
  pub is_solution : Solves s g
  pub none_before : (h : Substitution) → Solves s h → Earlier h g → ⊥

-- the order as a test
unfoldable pub lex : List ℕ → List ℕ → Bool
lex [] ys = false
lex (x ∷ xs) [] = false
lex (x ∷ xs) (y ∷ ys) = ltb x y || (eqb x y && lex xs ys)

abbrev pub earlier : Substitution → Substitution → Bool
earlier g h = lex (ranks g) (ranks h)

-- the earliest of g and those of a list; of a list, [] where it has none
unfoldable pub earliest : Substitution → List Substitution → Substitution
earliest g [] = g
earliest g (h ∷ hs) = earliest (pick (earlier h g) h g) hs

abbrev pub earliest_of : List Substitution → Substitution
earliest_of [] = []
earliest_of (g ∷ gs) = earliest g gs

-- "the first clash": of all solutions of a sheet the one that no other comes before, [] where there is none
unfoldable pub first_solution : Sheet → Substitution
first_solution s = earliest_of (keep (solves s) (every_legal s))
