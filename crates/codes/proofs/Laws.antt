-- The codes of literals that speak of a cell are those of the model's terms, and what the bytes of a side say of them; nine codes that agree. Assumes
-- nothing.
use mathlib.Core.Path.{◌≡◌, refl, ◌∙◌}
use mathlib.Core.Bool.{Bool, true, false}
use mathlib.Core.List.{List, [], ◌∷◌}
use Prim.Native.Nat.{ℕ, ◌+◌, ◌-◌, ◌*◌, ◌/◌, ◌%◌, ◌<◌, ◌≤◌}
use native.Mathlib.Omega.{arith}
use lib.Dec.{ltb}
use lib.ListN.{length, get_or}
use borrow.Author.Tests.{ltb-true, ltb-false, lt-ltb}
use Rattle.model.specs.Lists.{All, pick}
use Rattle.model.specs.Sheet.{Sheet, template}
use Rattle.model.specs.Range.{InRange}
use Rattle.model.specs.Cells.{Cell, letter, place, cells}
use Rattle.formula.specs.Clause.{K, Term, holds, lacks, is_blank, not_blank, only, blank, cell}
use Rattle.formula.specs.Numbering.{LocationIn, VariableIn, number}
use Rattle.model.proofs.Lists.{at, by_test}
use Rattle.model.proofs.Templates.{template_in}
use Rattle.formula.proofs.Small.{letters-few, fields-few, limit-small, cells-small}
use Rattle.formula.proofs.Valid.{CellIn, cells_in}
use Rattle.shape.specs.Bytes.{cell_byte, side_bytes}
use Rattle.shape.proofs.Sides.{cell_at, past-at}
use Rattle.dimacs.specs.Codes.{term_code}
use Rattle.codes.specs.Cell.{place_code, cell_code}

-- a location's places in its two sides
pub location_few : (s : Sheet) → InRange s → (p i j : ℕ) → LocationIn s p i j → (i ≤ 24) × (j ≤ 24)
location_few s ok p i j h = let few = cells-small s ok p h.0 in (omega (arith, h, few), omega (arith, h, few))

-- nine codes, the first four of which agree
pub same-nine : {a b c d a' b' c' d' : ℕ} → a ≡ a' → b ≡ b' → c ≡ c' → d ≡ d' → (a ∷ b ∷ c ∷ d ∷ 0 ∷ 0 ∷ 0 ∷ 0 ∷ 0 ∷ []) ≡ (a' ∷ b' ∷ c' ∷ d' ∷ 0 ∷ 0 ∷ 0 ∷ 0 ∷ 0 ∷ [])
same-nine p q r s = rw (p, q, r, s)

-- The code of a cell is that of "is a", "is not a", "is blank", "is not blank".
holds-place : (s : Sheet) (u : Cell) (a : ℕ) → place_code s u a 0 ≡ term_code s (holds u a)
holds-place s (letter b) a = refl
holds-place s (place f c) a = omega arith

lacks-place : (s : Sheet) (u : Cell) (a : ℕ) → place_code s u a 1 ≡ term_code s (lacks u a)
lacks-place s (letter b) a = refl
lacks-place s (place f c) a = refl

blank-place : (s : Sheet) (u : Cell) → place_code s u (blank s) 0 ≡ term_code s (is_blank s u)
blank-place s (letter b) = refl
blank-place s (place f c) = omega arith

not_blank-place : (s : Sheet) (u : Cell) → place_code s u (blank s) 1 ≡ term_code s (not_blank s u)
not_blank-place s (letter b) = refl
not_blank-place s (place f c) = refl

only_code : (s : Sheet) (b : Bool) (t : Term) (n : ℕ) → n ≡ term_code s t → pick b n 0 ≡ term_code s (only b t)
only_code s true t n e = e
only_code s false t n e = refl

module _ (s : Sheet) (us : List Cell) (i : ℕ) where
  here_code : (a sign : ℕ) → i < length us → cell_code s us i a sign ≡ place_code s (cell us i) a sign
  unfolding cell_code
  here_code a sign h = rw (lt-ltb i (length us) h)

  pub holds_code : (a : ℕ) → i < length us → cell_code s us i a 0 ≡ term_code s (holds (cell us i) a)
  holds_code a h = here_code a 0 h ∙ holds-place s (cell us i) a

  pub lacks_code : (a : ℕ) → i < length us → cell_code s us i a 1 ≡ term_code s (lacks (cell us i) a)
  lacks_code a h = here_code a 1 h ∙ lacks-place s (cell us i) a

  pub blank_code : i < length us → cell_code s us i (blank s) 0 ≡ term_code s (is_blank s (cell us i))
  blank_code h = here_code (blank s) 0 h ∙ blank-place s (cell us i)

  pub not_blank_code : i < length us → cell_code s us i (blank s) 1 ≡ term_code s (not_blank s (cell us i))
  not_blank_code h = here_code (blank s) 1 h ∙ not_blank-place s (cell us i)

  pub if_blank_code : cell_code s us i (blank s) 0 ≡ term_code s (only (ltb i (length us)) (is_blank s (cell us i)))
  unfolding cell_code
  if_blank_code = only_code s (ltb i (length us)) (is_blank s (cell us i)) (place_code s (cell us i) (blank s) 0) (blank-place s (cell us i))

-- The code of a cell by its byte x.
module _ (s : Sheet) (ok : InRange s) (a sign x : ℕ) where
  low_place : (u : Cell) → x ≡ cell_byte u → x < 8 → 0 ≡ place_code s u a sign
  low_place (letter b) e h = refl
  low_place (place f c) e h = absurd (omega arith)

  used-place : (u : Cell) → CellIn s u → x ≡ cell_byte u → x ≡ 255 → ⊥
  used-place (letter b) k e h = let l = letters-few s ok in omega arith
  used-place (place f c) k e h = let l = limit-small s ok f in let n = fields-few s ok in omega (arith, k)

  is-place : (u : Cell) → CellIn s u → x ≡ cell_byte u → 8 ≤ x → a ≤ blank s → VariableIn s (K ((x - 8) / 8) ((x - 8) % 8) a) × (2 * number s (K ((x - 8) / 8) ((x - 8) % 8) a) + sign ≡ place_code s u a sign)
  is-place (letter b) k e h l = let n = letters-few s ok in absurd (omega arith)
  is-place (place f c) k e h l =
      let n = limit-small s ok f in
      let p : (x - 8) / 8 ≡ f = omega (arith, k) in
      let q : (x - 8) % 8 ≡ c = omega (arith, k) in
      rw (p, q) ((k, l), refl)

-- The code of cell i of a side, by the byte that the side has there.
module _ (s : Sheet) (ok : InRange s) (p : ℕ) (h : p < length s.equations) (k i : ℕ) (few : i ≤ 24) (a sign x : ℕ) (is : x ≡ get_or (side_bytes (cells s (template s p k))) i 0) where
  abbrev us : List Cell
  us = cells s (template s p k)

  all_in : All (CellIn s) (cells s (template s p k))
  all_in = cells_in s (template s p k) (template_in s ok p h k).symbols

  inside : i < length us → x ≡ cell_byte (cell us i)
  inside l = is ∙ cell_at us i l

  outside : length us ≤ i → x ≡ 255
  outside l = is ∙ past-at us i l few

  pub low_code : x < 8 → 0 ≡ cell_code s us i a sign
  unfolding cell_code
  low_code low = by_test (ltb i (length us))
      (λ e. rw e (low_place s ok a sign x (cell us i) (inside (ltb-true i (length us) e)) low))
      (λ e. rw e)

  pub used_code : x ≡ 255 → 0 ≡ cell_code s us i a sign
  unfolding cell_code
  used_code used = by_test (ltb i (length us))
      (λ e. let l = ltb-true i (length us) e in absurd (used-place s ok a sign x (cell us i) (at (CellIn s) us i (letter 0) all_in l) (inside l) used))
      (λ e. rw e)

  pub place_code_lem : 8 ≤ x → (x ≡ 255 → ⊥) → a ≤ blank s → VariableIn s (K ((x - 8) / 8) ((x - 8) % 8) a) × (2 * number s (K ((x - 8) / 8) ((x - 8) % 8) a) + sign ≡ cell_code s us i a sign)
  unfolding cell_code
  place_code_lem high other l = by_test (ltb i (length us))
      (λ e. let m = ltb-true i (length us) e in rw e (is-place s ok a sign x (cell us i) (at (CellIn s) us i (letter 0) all_in m) (inside m) high l))
      (λ e. absurd (other (outside (ltb-false i (length us) e))))
