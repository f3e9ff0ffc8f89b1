-- The comparison of two texts, and what substitutions come to, computed: words and sheets with what is told of them, worked out by hand. Assumes nothing.
use mathlib.Core.Path.{◌≡◌, refl}
use mathlib.Core.List.{List, [], ◌∷◌, map}
use Prim.Native.Nat.{ℕ}
use lib.IntN.{pos, neg_ℤ}
use Rattle.model.specs.Lists.{each, leading}
use Rattle.model.specs.Sheet.{Sheet, letter, field}
use Rattle.model.specs.Word.{Substitution, spell, weight, same_letter, same_word, equation_holds, constraint_holds}
use Rattle.model.specs.Mismatch.{agreeing, rest_side, rest_word, Judgement, solution, differs, breaks, judged}

-- over a, b, c and d, numbered 0 to 3, the fields X, Y of limit 3; X against aY, and XY against YX; the rules X + Y at most 4, and X - Y at most 0
abbrev two_pairs : Sheet
two_pairs = record {
  letters = 97 ∷ 98 ∷ 99 ∷ 100 ∷ [];
  limits = 3 ∷ 3 ∷ [];
  equations =
      record { left = field 0 ∷ []; right = letter 0 ∷ field 1 ∷ [] }
      ∷ record { left = field 0 ∷ field 1 ∷ []; right = field 1 ∷ field 0 ∷ [] }
      ∷ [];
  constraints =
      record { coefficients = pos 1 ∷ pos 1 ∷ []; most = pos 4 }
      ∷ record { coefficients = pos 1 ∷ neg_ℤ (pos 1) ∷ []; most = pos 0 }
      ∷ [];
}

-- two words, the letters that agree, and the rest with its side
pub record Compared : Type 0 where
  pub left : List ℕ
  pub right : List ℕ
  pub agree : ℕ
  pub side : ℕ
  pub rest : List ℕ

abbrev compared : List ℕ → List ℕ → ℕ → ℕ → List ℕ → Compared
compared u w n side rest = record { left = u; right = w; agree = n; side = side; rest = rest }

abbrev words : List Compared
words =
    -- ab against acd, and ab against abc: one letter is left over of the left text, and one of the right
    compared (0 ∷ 1 ∷ []) (0 ∷ 2 ∷ 3 ∷ []) 1 0 (1 ∷ [])
    ∷ compared (0 ∷ 1 ∷ []) (0 ∷ 1 ∷ 2 ∷ []) 2 1 (2 ∷ [])
    -- abc against ab, and against a; acd against ab
    ∷ compared (0 ∷ 1 ∷ 2 ∷ []) (0 ∷ 1 ∷ []) 2 0 (2 ∷ [])
    ∷ compared (0 ∷ 1 ∷ 2 ∷ []) (0 ∷ []) 1 0 (1 ∷ 2 ∷ [])
    ∷ compared (0 ∷ 2 ∷ 3 ∷ []) (0 ∷ 1 ∷ []) 1 0 (2 ∷ 3 ∷ [])
    -- the first letters differ, and the later ones would agree
    ∷ compared (1 ∷ 0 ∷ 0 ∷ []) (2 ∷ 0 ∷ 0 ∷ []) 0 0 (1 ∷ 0 ∷ 0 ∷ [])
    -- equal texts; empty texts
    ∷ compared (0 ∷ 1 ∷ []) (0 ∷ 1 ∷ []) 2 1 []
    ∷ compared [] [] 0 1 []
    ∷ compared [] (1 ∷ 2 ∷ []) 0 1 (1 ∷ 2 ∷ [])
    ∷ compared (1 ∷ 2 ∷ []) [] 0 0 (1 ∷ 2 ∷ [])
    ∷ []

pub compared_words : map (λ (c : Compared). compared c.left c.right (agreeing two_pairs c.left c.right) (rest_side two_pairs c.left c.right) (rest_word two_pairs c.left c.right)) words ≡ words
unfolding same_letter agreeing
compared_words = refl

-- a substitution of `two_pairs`, and what it comes to
pub record Judged : Type 0 where
  pub texts : Substitution
  pub told : Judgement

abbrev ◌comes-to◌ : Substitution → Judgement → Judged
◌comes-to◌ g j = record { texts = g; told = j }

infix 5 ◌comes-to◌
abbrev substitutions : List Judged
substitutions =
    -- X=a, Y empty: a and a, a and a; a rule is broken, the second
    ((0 ∷ []) ∷ [] ∷ [] comes-to breaks 1)
    -- X=aaa, Y=aa: both rules are broken, and the first is told
    ∷ ((0 ∷ 0 ∷ 0 ∷ []) ∷ (0 ∷ 0 ∷ []) ∷ [] comes-to breaks 0)
    -- X=ab, Y=b: ab and ab, but abb and bab; a rule is broken too
    ∷ ((0 ∷ 1 ∷ []) ∷ (1 ∷ []) ∷ [] comes-to differs 1 0 0 3)
    -- X empty, Y empty: nothing and a
    ∷ ([] ∷ [] ∷ [] comes-to differs 0 0 1 1)
    -- X=a, Y=bc: a and abc; both pairs differ, and the first is told
    ∷ ((0 ∷ []) ∷ (1 ∷ 2 ∷ []) ∷ [] comes-to differs 0 1 1 2)
    -- X=acc, Y=b: acc and ab; a rule is broken too
    ∷ ((0 ∷ 2 ∷ 2 ∷ []) ∷ (1 ∷ []) ∷ [] comes-to differs 0 1 0 2)
    ∷ []

pub judged-substitutions : map (λ (j : Judged). j.texts comes-to judged two_pairs j.texts) substitutions ≡ substitutions
unfolding each leading spell weight same_letter same_word equation_holds constraint_holds agreeing judged
judged-substitutions = refl

-- without rules: X=aa, Y=a is a solution
abbrev no_rules_lem : Sheet
no_rules_lem = record { letters = two_pairs.letters; limits = two_pairs.limits; equations = two_pairs.equations; constraints = [] }

pub judged-solution_computed : judged no_rules_lem ((0 ∷ 0 ∷ []) ∷ (0 ∷ []) ∷ []) ≡ solution
unfolding each leading spell weight same_letter same_word equation_holds constraint_holds agreeing judged
judged-solution_computed = refl
