-- What a book asks (document 02, No. 3): the question of two templates, and the list of those that clash.
use Rattle.std.specs.Prelude.{Bool, List, [], ◌∷◌, ◌++◌, map, ℕ, suc, ◌+◌, ◌-◌, ◌<◌, ◌≡◌, length}
use Rattle.model.specs.Lists.{each, from, up_to, when, keep}
use Rattle.model.specs.Sheet.{Symbol, letter, field, Sheet}
use Rattle.model.specs.Word.{Substitution, Texts, spell, SameWord}
use Rattle.model.specs.Solvable.{solvable}
use Rattle.book.specs.Book.{Template, Book, template}

-- "j's fields numbered after i's", of which there are n
abbrev pub numbered_after : ℕ → Symbol → Symbol
numbered_after n (letter a) = letter a
numbered_after n (field f) = field (n + f)

-- "the question is the sheet with template i on the left and j on the right, j's fields numbered after i's, without rules": of two templates and
-- the book's letters
unfoldable pub asked : List ℕ → Template → Template → Sheet
asked letters t u = record {
  letters = letters;
  limits = t.limits ++ u.limits;
  equations = record { left = t.symbols; right = map (numbered_after (length t.limits)) u.symbols } ∷ [];
  constraints = [];
}

abbrev pub question : Book → ℕ → ℕ → Sheet
question k i j = asked k.letters (template k i) (template k j)

-- Two templates clash when their question has a filling that clashes.
abbrev pub clash : Book → ℕ → ℕ → Bool
clash k i j = solvable (question k i j)

-- The same without sheet and numbers: texts for the fields of the one template, and texts for the fields of the other, with which both spell the same.
-- "Fields belong to their own template." `Meaning.antt` shows that it is the same.
pub record Clash (k : Book) (i j : ℕ) : Type 0 where
  pub left_texts : Substitution
  pub right_texts : Substitution
  pub left_legal : Texts (length k.letters) (template k i).limits left_texts
  pub right_legal : Texts (length k.letters) (template k j).limits right_texts
  pub same_text : SameWord (question k i j) (spell left_texts (template k i).symbols) (spell right_texts (template k j).symbols)

-- "For i below j": a pair of templates, and all of them, "by i then j", of n templates.
pub record Pair : Type 0 where
  pub first : ℕ
  pub second : ℕ

unfoldable pub pairs : ℕ → List Pair
pairs n = each (up_to n) (λ i. map (λ j. record { first = i; second = j }) (from (suc i) (n - suc i)))

-- those that pass a test
abbrev pub kept : (ℕ → ℕ → Bool) → ℕ → List Pair
kept t n = keep (λ p. t p.first p.second) (pairs n)

-- "The answer lists each clashing (i, j) once, by i then j .. . It lists all of them and no others".
unfoldable pub clashing : Book → List Pair
clashing k = kept (clash k) (length k.templates)

-- "one byte for i and one for j"
abbrev pub pair_bytes : Pair → List ℕ
pair_bytes p = p.first ∷ p.second ∷ []

unfoldable pub list_bytes : List Pair → List ℕ
list_bytes ps = each ps pair_bytes

-- the part of it that has i as the first, of n templates and those pairs that pass a test
unfoldable pub row_bytes : (ℕ → ℕ → Bool) → ℕ → ℕ → List ℕ
row_bytes t n i = each (from (suc i) (n - suc i)) (λ j. when (t i j) (i ∷ j ∷ []))

-- the order "by i then j"
pub data Precedes (p q : Pair) : Type 0 where
  by_first : p.first < q.first → Precedes p q
  by_second : p.first ≡ q.first → p.second < q.second → Precedes p q
