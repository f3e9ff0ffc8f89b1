-- The bytes of a side of an equation: each cell's, past the last cell 255, and what they say of a location's side. Assumes nothing.
use mathlib.Core.Path.{◌≡◌, ap, ◌∙◌}
use mathlib.Core.List.{List, ◌++◌, map}
use Prim.Native.Nat.{ℕ, ◌+◌, ◌-◌, ◌*◌, ◌<◌, ◌≤◌}
use native.Mathlib.Omega.{arith}
use lib.Dec.{ltb}
use lib.ListN.{length, get_or, drop, replicate, length-map, get_or-replicate, get_or-append}
use lib.Seq.{get_or-drop}
use borrow.Author.Tests.{ltb-true, ltb-false, lt-ltb, le-ltb, ne_eqb}
use Rattle.model.specs.Sheet.{Sheet, template}
use Rattle.model.specs.Range.{InRange}
use Rattle.model.specs.Cells.{Cell, letter, place, cells}
use Rattle.formula.specs.Clause.{cell}
use Rattle.formula.specs.Kind.{used, at_letter, at_field, cell_side, side}
use Rattle.model.proofs.Lists.{by_test, at}
use Rattle.model.proofs.Keeping.{map_at, second_at}
use Rattle.formula.proofs.Small.{letters-few, fields-few, limit-small}
use Rattle.model.proofs.Templates.{template_in}
use Rattle.formula.proofs.Valid.{CellIn, cells_in}
use Rattle.shape.specs.Bytes.{cell_byte, side_bytes, side_of}

module _ (us : List Cell) (i : ℕ) where
  pub cell_at : i < length us → get_or (side_bytes us) i 0 ≡ cell_byte (cell us i)
  unfolding side_bytes
  cell_at h =
      get_or-append (map cell_byte us) (drop (length us) (replicate 25 255)) 0 i (omega (arith, length-map us cell_byte))
      ∙ map_at cell_byte (letter 0) 0 us i h

  pub past-at : length us ≤ i → i ≤ 24 → get_or (side_bytes us) i 0 ≡ 255
  unfolding side_bytes
  past-at h k =
      let rest : List ℕ = drop (length us) (replicate 25 255) in
      let e : i ≡ length us + (i - length us) = omega arith in
      ap (λ n. get_or (map cell_byte us ++ rest) n 0) e
      ∙ second_at 0 (map cell_byte us) rest (length us) (i - length us) (length-map us cell_byte)
      ∙ get_or-drop (length us) (replicate 25 255) (i - length us) 0
      ∙ get_or-replicate 25 (length us + (i - length us)) 255 0 (omega arith)

-- The sides that a byte stands for.
pub says_used : (x : ℕ) → x ≡ 255 → side_of x ≡ used
says_used x e = rw e

pub says_letter : (x : ℕ) → x < 8 → side_of x ≡ at_letter x
says_letter x h = rw (lt-ltb x 8 h)

pub says_field : (x : ℕ) → 8 ≤ x → (x ≡ 255 → ⊥) → side_of x ≡ at_field
says_field x h n = rw (le-ltb x 8 h, ne_eqb x 255 n)

module _ (s : Sheet) (ok : InRange s) where
  -- a letter is below 8, and a place's byte from 8 to 55
  cell_says : (u : Cell) → CellIn s u → side_of (cell_byte u) ≡ cell_side u
  cell_says (letter a) h = let l = letters-few s ok in says_letter a (omega arith)
  cell_says (place f c) h =
      let v = fields-few s ok in
      let n = limit-small s ok f in
      let k : 8 + 8 * f + c ≤ 55 = omega (arith, h) in
      says_field (8 + 8 * f + c) (omega arith) (λ e. omega arith)

  pub side-at : (p : ℕ) → p < length s.equations → (k : ℕ) → (i : ℕ) → i ≤ 24
      → side_of (get_or (side_bytes (cells s (template s p k))) i 0) ≡ side (cells s (template s p k)) i
  side-at p h k i l =
      let us : List Cell = cells s (template s p k) in
      by_test (ltb i (length us))
      (λ e.
      let n = ltb-true i (length us) e in
      rw e (ap side_of (cell_at us i n)
      ∙ cell_says (cell us i) (at (CellIn s) us i (letter 0) (cells_in s (template s p k) (template_in s ok p h k).symbols) n)))
      (λ e. rw e (ap side_of (past-at us i (ltb-false i (length us) e) l)))
