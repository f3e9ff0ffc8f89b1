-- The lines of a row of locations, by the bytes and the codes of the two sides. Assumes nothing.
use mathlib.Core.Path.{◌≡◌, refl, sym, ap, ◌∙◌}
use mathlib.Core.List.{List, map}
use Prim.Native.Nat.{ℕ, suc, ◌+◌, ◌*◌, ◌<◌, ◌≤◌}
use native.Mathlib.Nat.{mul_comm, mul_assoc}
use native.Mathlib.Omega.{arith}
use lib.Dec.{ltb}
use lib.ListN.{length, get_or}
use borrow.Author.Tests.{ltb-true}
use Rattle.model.specs.Lists.{each, up_to}
use Rattle.model.specs.Sheet.{Sheet, template}
use Rattle.model.specs.Range.{InRange}
use Rattle.model.specs.Cells.{Cell, letter, place, cells}
use Rattle.formula.specs.Clause.{K, S, blank, cell, left_cells, right_cells}
use Rattle.formula.specs.Numbering.{number}
use Rattle.formula.specs.Kind.{used, at_field, cell_side, side}
use Rattle.model.proofs.Lists.{by_test}
use Rattle.model.proofs.Keeping.{map-from-at, loop_same}
use Rattle.formula.proofs.Numbering.{positive, number_small}
use Rattle.formula.proofs.Small.{letters-few, cells-small, variables-small}
use Rattle.formula.proofs.Standing.{sides_in}
use Rattle.model.proofs.Templates.{well_formed}
use Rattle.formula.proofs.Valid.{CellIn, cell_in}
use Rattle.shape.specs.Bytes.{side_bytes, side_of}
use Rattle.shape.proofs.Sides.{side-at}
use Rattle.codes.specs.Cell.{place_code, cell_code}
use Rattle.locations.specs.Lines.{location_lines, row_lines}
use Rattle.dimacs.specs.Codes.{most_code}
use Rattle.crossings.specs.Codes.{cross_lines}
use Rattle.locations.specs.Codes.{row_of, Rowed}
use Rattle.locations.proofs.Located.{cross_is}

-- the number of a location by that of the first, and of the first of its row
first-number : (s : Sheet) (p i : ℕ) → number s (S p i 0) ≡ number s (S p 0 0) + i * suc (length (right_cells s p))
unfolding number
first-number s p i = omega arith

column_number : (s : Sheet) (p i j : ℕ) → number s (S p i j) ≡ number s (S p i 0) + j
unfolding number
column_number s p i j = omega arith

row_number : (s : Sheet) (p i here n : ℕ) → here ≡ 2 * number s (S p 0 0) → n ≡ suc (length (right_cells s p)) → here + i * (2 * n) ≡ 2 * number s (S p i 0)
row_number s p i here n e en =
    let w : ℕ = suc (length (right_cells s p)) in
    let twice : i * (2 * n) ≡ 2 * (i * w) = ap (λ k. i * (2 * k)) en ∙ mul_comm i (2 * w) ∙ mul_assoc 2 w i ∙ ap (λ k. 2 * k) (mul_comm w i) in
    omega (arith, first-number s p i)

-- What is known of an equation before its rows are gone through: the letters, the last row, how many locations a row has, the code of the first location, and the
-- bytes and the codes of the two sides.
pub record Surveyed (s : Sheet) (p l m n first : ℕ) (left right xs ys : List ℕ) : Type 0 where
  pub letters_are : l ≡ blank s
  pub rows_are : m ≡ length (left_cells s p)
  pub row_is : n ≡ suc (length (right_cells s p))
  pub first_is : first ≡ 2 * number s (S p 0 0)
  pub left_bytes : left ≡ side_bytes (left_cells s p)
  pub right_bytes : right ≡ side_bytes (right_cells s p)
  pub left_codes : xs ≡ map (λ i. cell_code s (left_cells s p) i 0 0) (up_to 25)
  pub right_codes : ys ≡ map (λ i. cell_code s (right_cells s p) i 0 0) (up_to 25)

module _ (s : Sheet) (ok : InRange s) (p : ℕ) (hp : p < length s.equations) where
  place-few : (u : Cell) → CellIn s u → place_code s u 0 0 ≤ most_code
  place-few (letter b) h = omega arith
  place-few (place f c) h = omega (arith, number_small s (K f c 0) (h, omega arith), variables-small s ok)

  -- codes are small
  cell-few : (k i : ℕ) → cell_code s (cells s (template s p k)) i 0 0 ≤ most_code
  unfolding cell_code
  cell-few k i =
      let us : List Cell = cells s (template s p k) in
      by_test (ltb i (length us))
      (λ e. rw e (place-few (cell us i) (cell_in s (well_formed s ok) p hp k i (ltb-true i (length us) e))))
      (λ e. rw e (omega arith))

  pub location_few : (i : ℕ) → i ≤ length (left_cells s p) → 2 * number s (S p i 0) ≤ most_code
  location_few i h = omega (arith, number_small s (S p i 0) (hp, h, omega arith), variables-small s ok)

  -- Row i, from what is known of the equation.
  module _ (l m n first : ℕ) (left right xs ys : List ℕ) (known : Surveyed s p l m n first left right xs ys) (i : ℕ) (within : i ≤ m) where
    el : l ≡ blank s
    el = known.letters_are

    en : n ≡ suc (length (right_cells s p))
    en = known.row_is

    is-left : left ≡ side_bytes (left_cells s p)
    is-left = known.left_bytes

    is_right : right ≡ side_bytes (right_cells s p)
    is_right = known.right_bytes

    are-left : xs ≡ map (λ i. cell_code s (left_cells s p) i 0 0) (up_to 25)
    are-left = known.left_codes

    are-right : ys ≡ map (λ i. cell_code s (right_cells s p) i 0 0) (up_to 25)
    are-right = known.right_codes

    hi : i ≤ length (left_cells s p)
    hi = omega (arith, known.rows_are)

    -- the code of its first location
    abbrev here : ℕ
    here = first + i * (2 * n)

    eh : here ≡ 2 * number s (S p i 0)
    eh = row_number s p i first n known.first_is en

    pub row-few : here ≤ most_code
    row-few = omega (arith, eh, location_few i hi)

    few-left : i ≤ 24
    few-left = omega (arith, (cells-small s ok p hp).0, hi)

    few-right : (j : ℕ) → j < n → j ≤ 24
    few-right j h = omega (arith, (cells-small s ok p hp).1)

    at_code : (k : ℕ) (zs : List ℕ) → zs ≡ map (λ i. cell_code s (cells s (template s p k)) i 0 0) (up_to 25) → (j : ℕ) → j ≤ 24
        → get_or zs j 0 ≡ cell_code s (cells s (template s p k)) j 0 0
    at_code k zs e j h =
        let g : ℕ → ℕ = λ i. cell_code s (cells s (template s p k)) i 0 0 in
        let z : 0 + j ≡ j = omega arith in
        ap (λ (ws : List ℕ). get_or ws j 0) e ∙ map-from-at g 0 0 25 j (omega arith) ∙ ap g z

    left-side : side_of (get_or left i 0) ≡ side (left_cells s p) i
    left-side = ap (λ (b : List ℕ). side_of (get_or b i 0)) is-left ∙ side-at s ok p hp 0 i few-left

    right_side : (j : ℕ) → j < n → side_of (get_or right j 0) ≡ side (right_cells s p) j
    right_side j h = ap (λ (b : List ℕ). side_of (get_or b j 0)) is_right ∙ side-at s ok p hp 1 j (few-right j h)

    one_location : (j : ℕ) → j < n
        → cross_lines l (2 * n) (here + 2 * j) (side_of (get_or left i 0)) (get_or xs i 0) (side_of (get_or right j 0)) (get_or ys j 0) ≡ location_lines s p i j
    unfolding location_lines
    one_location j h =
        let at_here : here + 2 * j ≡ 2 * number s (S p i j) = omega (arith, eh, column_number s p i j) in
        rw (left-side, right_side j h, at_code 0 xs are-left i few-left, at_code 1 ys are-right j (few-right j h), el)
        (sym (cross_is s p i j (here + 2 * j) (2 * n) at_here (ap (λ k. 2 * k) en) (side (left_cells s p) i) (side (right_cells s p) j) refl refl))

    row-lines : row_of l n here (get_or left i 0) (get_or xs i 0) right ys ≡ row_lines s p i
    unfolding row_of row_lines
    row-lines =
        loop_same (λ j. cross_lines l (2 * n) (here + 2 * j) (side_of (get_or left i 0)) (get_or xs i 0) (side_of (get_or right j 0)) (get_or ys j 0)) (location_lines s p i) n one_location
        ∙ ap (λ k. each (up_to k) (location_lines s p i)) en

    row_ready : Rowed l n here (get_or xs i 0) right ys
    row_ready = record {
      letters = omega (arith, letters-few s ok);
      row = omega (arith, (cells-small s ok p hp).1);
      at_here = row-few;
      at_left = rw (at_code 0 xs are-left i few-left) (omega (arith, cell-few 0 i));
      at_right = λ j h. rw (at_code 1 ys are-right j (few-right j h)) (omega (arith, cell-few 1 j));
      sides = λ j h. rw (right_side j h, el) (sides_in s (well_formed s ok) p hp i j).1;
    }

    -- a place on the right has a code
    pub row-places : (j : ℕ) → j < n → side_of (get_or right j 0) ≡ at_field → 0 < get_or ys j 0
    unfolding cell_code
    row-places j h e =
        let us = right_cells s p in
        let at : side us j ≡ at_field = sym (right_side j h) ∙ e in
        rw (at_code 1 ys are-right j (few-right j h))
        (by_test (ltb j (length us))
        (λ t. rw t (placed (cell us j) (rw t at at)))
        (λ t. not_field (rw t at at)))
      where
        placed : (u : Cell) → cell_side u ≡ at_field → 0 < place_code s u 0 0
        placed (letter b) q = let z : ◌≡◌ {A = ℕ} 0 1 = cc in absurd (omega arith)
        placed (place f c) q = omega (arith, positive s (K f c 0))

        not_field : {A : Type 0} → used ≡ at_field → A
        not_field q = let z : ◌≡◌ {A = ℕ} 0 1 = cc in absurd (omega arith)

    pub row_told : (row_of l n here (get_or left i 0) (get_or xs i 0) right ys ≡ row_lines s p i) × Rowed l n here (get_or xs i 0) right ys
    row_told = (row-lines, row_ready)
