-- Document 01's proved examples (a) to (k) as one list: sheets as bytes, what is claimed of each, and one computed test over the list.
-- Shown.antt turns the test into the statements. Assumes nothing.
use mathlib.Core.Path.{◌≡◌, refl}
use mathlib.Core.Bool.{Bool, true, false, not, ◌&&◌, ◌||◌}
use mathlib.Core.List.{List, [], ◌∷◌}
use Prim.Native.Nat.{ℕ}
use lib.Dec.{leb, ltb}
use lib.ListN.{length}
use Rattle.model.specs.Lists.{starts_with, same, each, from, all}
use Rattle.model.specs.Sheet.{Sheet, equation, row, times, sides, an_equation, a_constraint, walk, width, signed, opening, read, is_accepted, sheet_in}
use Rattle.model.specs.Word.{Substitution, letter_bytes, spell, weight, same_letter, same_word, equation_holds, constraint_holds, keeps, solves}
use Rattle.model.specs.Solvable.{all_texts, substitutions, every_legal}
use Rattle.model.proofs.Computed.{sheet}

-- What is claimed of a sheet: that a substitution clashes; that it alone does; that it is legal and does not; that none does; that both
-- sides of the first pair spell these letter bytes under it.
pub data Claim : Type 0 where
  clashes : Substitution → Claim
  only : Substitution → Claim
  does_not : Substitution → Claim
  apart : Claim
  spells : Substitution → List ℕ → Claim

pub record Example : Type 0 where
  pub bytes : List ℕ
  pub claim : Claim

abbrev ◌shows◌ : List ℕ → Claim → Example
◌shows◌ b k = record { bytes = b; claim = k }

infix 5 ◌shows◌
-- AX against XA over A and B, with r rules
abbrev AX_XA : ℕ → List ℕ → List ℕ
AX_XA r rules = sheet 2 1 1 r (65 ∷ 66 ∷ 1 ∷ 2 ∷ 2 ∷ 0 ∷ 128 ∷ 128 ∷ 0 ∷ rules)

-- XabY against aXYb over a and b
abbrev XabY_a_xyb : List ℕ
XabY_a_xyb = sheet 2 2 1 0 (97 ∷ 98 ∷ 1 ∷ 1 ∷ 4 ∷ 4 ∷ 128 ∷ 0 ∷ 1 ∷ 129 ∷ 0 ∷ 128 ∷ 129 ∷ 1 ∷ [])

abbrev pub listed : List Example
listed =
    -- (a) P clashes with X=A only
    (sheet 1 1 1 0 (65 ∷ 1 ∷ 1 ∷ 1 ∷ 128 ∷ 0 ∷ []) shows only ((0 ∷ []) ∷ []))
    -- (b) P with limit 0 is apart
    ∷ (sheet 1 1 1 0 (65 ∷ 0 ∷ 1 ∷ 1 ∷ 128 ∷ 0 ∷ []) shows apart)
    -- (c) no fields, both templates empty: clash
    ∷ (sheet 1 0 1 0 (65 ∷ 0 ∷ 0 ∷ []) shows clashes [])
    -- (d) XX against A, limit 1: apart
    ∷ (sheet 1 1 1 0 (65 ∷ 1 ∷ 2 ∷ 1 ∷ 128 ∷ 128 ∷ 0 ∷ []) shows apart)
    -- (e) AX against XA, letters A B, limit 1: empty and A clash, B does not
    ∷ (AX_XA 0 [] shows clashes ([] ∷ []))
    ∷ (AX_XA 0 [] shows clashes ((0 ∷ []) ∷ []))
    ∷ (AX_XA 0 [] shows does_not ((1 ∷ []) ∷ []))
    -- (f) as (e) with -1 × length at most -1: only A
    ∷ (AX_XA 1 (255 ∷ 255 ∷ 255 ∷ []) shows only ((0 ∷ []) ∷ []))
    -- (g) the same with at most -2: apart
    ∷ (AX_XA 1 (255 ∷ 255 ∷ 254 ∷ []) shows apart)
    -- (h) pairs X,A and X,B: apart
    ∷ (sheet 2 1 2 0 (65 ∷ 66 ∷ 1 ∷ 1 ∷ 1 ∷ 128 ∷ 0 ∷ 1 ∷ 1 ∷ 128 ∷ 1 ∷ []) shows apart)
    -- (i) XabY, aXYb with X=a, Y=b spells aabb
    ∷ (XabY_a_xyb shows clashes ((0 ∷ []) ∷ (1 ∷ []) ∷ []))
    ∷ (XabY_a_xyb shows spells ((0 ∷ []) ∷ (1 ∷ []) ∷ []) (97 ∷ 97 ∷ 98 ∷ 98 ∷ []))
    -- (j) aZXb, aXaY with Z=a, X=a, Y=b; the fields are X, Y, Z
    ∷ (sheet 2 3 1 0 (97 ∷ 98 ∷ 1 ∷ 1 ∷ 1 ∷ 4 ∷ 4 ∷ 0 ∷ 130 ∷ 128 ∷ 1 ∷ 0 ∷ 128 ∷ 0 ∷ 129 ∷ []) shows clashes ((0 ∷ []) ∷ (1 ∷ []) ∷ (0 ∷ []) ∷ []))
    -- (k) aXaY, aZXb with X empty, Y=b, Z=a
    ∷ (sheet 2 3 1 0 (97 ∷ 98 ∷ 1 ∷ 1 ∷ 1 ∷ 4 ∷ 4 ∷ 0 ∷ 128 ∷ 0 ∷ 129 ∷ 0 ∷ 130 ∷ 128 ∷ 1 ∷ []) shows clashes ([] ∷ (1 ∷ []) ∷ (0 ∷ []) ∷ []))
    ∷ []

-- The tests.
unfoldable pub legal_texts : ℕ → List ℕ → Substitution → Bool
legal_texts l [] [] = true
legal_texts l [] (t ∷ g) = false
legal_texts l (n ∷ ns) [] = false
legal_texts l (n ∷ ns) (t ∷ g) = leb (length t) n && (all (λ a. ltb a l) t && legal_texts l ns g)

unfoldable pub same_texts_lem : Substitution → Substitution → Bool
same_texts_lem [] [] = true
same_texts_lem [] (t ∷ g) = false
same_texts_lem (t ∷ g) [] = false
same_texts_lem (t ∷ g) (u ∷ h) = same t u && same_texts_lem g h

abbrev pub legal_in : Sheet → Substitution → Bool
legal_in s g = legal_texts (length s.letters) s.limits g

abbrev pub clashes_in : Sheet → Substitution → Bool
clashes_in s g = legal_in s g && solves s g

abbrev pub test : Sheet → Claim → Bool
test s (clashes g) = clashes_in s g
test s (only g) = clashes_in s g && all (λ h. not (solves s h) || same_texts_lem h g) (every_legal s)
test s (does_not g) = legal_in s g && not (solves s g)
test s apart = all (λ h. not (solves s h)) (every_legal s)
test s (spells g w) = same (letter_bytes s (spell g (equation s 0).left)) w && same (letter_bytes s (spell g (equation s 0).right)) w

abbrev pub passes_test : Example → Bool
passes_test c = is_accepted (read c.bytes) && test (sheet_in (read c.bytes)) c.claim

pub tests_pass : all passes_test listed ≡ true
unfolding starts_with row times sides an_equation a_constraint walk width signed opening read each from all all_texts substitutions legal_texts same_texts_lem same spell weight same_letter same_word equation_holds constraint_holds keeps solves
tests_pass = refl
