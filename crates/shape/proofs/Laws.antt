-- Laws of specs/Bytes: the cells of a symbol, of the first symbols of a template, and of a side of an equation. Assumes nothing.
use mathlib.Core.Path.{◌≡◌, refl, ap, ◌∙◌}
use mathlib.Core.List.{List, [], ◌∷◌, ◌++◌, map}
use Prim.Native.Nat.{ℕ, ◌+◌, ◌-◌, ◌*◌, ◌<◌, ◌≤◌}
use native.Mathlib.Omega.{arith}
use lib.ListN.{length, get_or, take, drop, replicate, length-append, length-map, get_or-map}
use lib.Seq.{take_all}
use borrow.Author.Tests.{lt-ltb, le-ltb}
use Rattle.model.specs.Lists.{All, each, up_to, Puts}
use Rattle.model.specs.Sheet.{Sheet, symbol_of, symbol_byte, limit, sheet_of, template}
use Rattle.model.specs.Range.{SymbolIn, Admitted}
use Rattle.model.specs.Cells.{letter, place, symbol_cells, cells}
use Rattle.model.proofs.Lists.{each_next, each_part}
use Rattle.model.proofs.Keeping.{map-append, map_next, length_from}
use Rattle.model.proofs.Values.{cells-width}
use Rattle.model.proofs.Seams.{placed_front}
use Rattle.model.proofs.Templates.{template_in, template_again}
use Rattle.shape.specs.Bytes.{cell_byte, side_bytes}

-- the places of a field: none, one more, and how many
pub places-more : (f c : ℕ) → map cell_byte (map (place f) (up_to (c + 1))) ≡ map cell_byte (map (place f) (up_to c)) ++ ((8 + 8 * f + c) ∷ [])
places-more f c =
    ap (map cell_byte) (map_next (place f) c) ∙ map-append cell_byte (map (place f) (up_to c)) (place f c ∷ [])

pub places-length : (f n : ℕ) → length (map cell_byte (map (place f) (up_to n))) ≡ n
places-length f n = length-map (map (place f) (up_to n)) cell_byte ∙ length-map (up_to n) (place f) ∙ length_from 0 n

-- the cells of a symbol's byte
pub letter-cells : (s : Sheet) (x : ℕ) → x < 128 → symbol_cells s (symbol_of x) ≡ letter x ∷ []
letter-cells s x h = rw (lt-ltb x 128 h)

pub field-cells : (s : Sheet) (x : ℕ) → 128 ≤ x → symbol_cells s (symbol_of x) ≡ map (place (x - 128)) (up_to (limit s (x - 128)))
field-cells s x h = rw (le-ltb x 128 h)

pub length-cells : (s : Sheet) (x : ℕ) → 128 ≤ x → length (symbol_cells s (symbol_of x)) ≡ limit s (x - 128)
length-cells s x h = ap length (field-cells s x h) ∙ length-map (up_to (limit s (x - 128))) (place (x - 128)) ∙ length_from 0 (limit s (x - 128))

pub field_in : (l v x : ℕ) → 128 ≤ x → SymbolIn l v (symbol_of x) → x - 128 < v
field_in l v x h k = rw (le-ltb x 128 h) at k

-- A template's bytes as cells, up to index i and one symbol further; and the room for it.
abbrev pub taken : Sheet → List ℕ → ℕ → List ℕ
taken s t i = map cell_byte (cells s (take i (map symbol_of t)))

pub taken_none : (s : Sheet) (t : List ℕ) → taken s t 0 ≡ []
unfolding cells each
taken_none s t = refl

pub taken-all : (s : Sheet) (t : List ℕ) (i : ℕ) → length t ≤ i → taken s t i ≡ map cell_byte (cells s (map symbol_of t))
taken-all s t i h = ap (λ u. map cell_byte (cells s u)) (take_all i (map symbol_of t) (omega (arith, length-map t symbol_of)))

module _ (s : Sheet) (t : List ℕ) (i : ℕ) (more : i < length t) where
  cells-more : cells s (take (i + 1) (map symbol_of t)) ≡ cells s (take i (map symbol_of t)) ++ symbol_cells s (symbol_of (get_or t i 0))
  unfolding cells
  cells-more =
      let n : i < length (map symbol_of t) = omega (arith, length-map t symbol_of) in
      each_next (symbol_cells s) (map symbol_of t) i (symbol_of 0) n
      ∙ ap (λ x. each (take i (map symbol_of t)) (symbol_cells s) ++ symbol_cells s x) (get_or-map symbol_of t i 0)

  pub taken_more : taken s t (i + 1) ≡ taken s t i ++ map cell_byte (symbol_cells s (symbol_of (get_or t i 0)))
  taken_more = ap (map cell_byte) cells-more ∙ map-append cell_byte (cells s (take i (map symbol_of t))) (symbol_cells s (symbol_of (get_or t i 0)))

  pub taken-room : length (taken s t i) + length (symbol_cells s (symbol_of (get_or t i 0))) ≤ length (cells s (map symbol_of t))
  unfolding cells
  taken-room =
      let a = length-map (cells s (take i (map symbol_of t))) cell_byte in
      let b = ap length cells-more in
      let d = length-append (cells s (take i (map symbol_of t))) (symbol_cells s (symbol_of (get_or t i 0))) in
      let e = each_part (symbol_cells s) (map symbol_of t) (i + 1) in
      omega arith

-- The symbols of one side of an equation, as the sheet has them: its cells, and their room.
module _ (b : List ℕ) (ok : Admitted b) (p : ℕ) (h : p < length (sheet_of b).equations) (side : ℕ) (t : List ℕ) (is : t ≡ map symbol_byte (template (sheet_of b) p side)) where
  pub symbols-are : map symbol_of t ≡ template (sheet_of b) p side
  symbols-are = ap (map symbol_of) is ∙ template_again (sheet_of b) ok.1 p h side

  cells_fit : length (cells (sheet_of b) (map symbol_of t)) ≤ 24
  cells_fit =
      let n = ap (λ u. length (cells (sheet_of b) u)) symbols-are ∙ cells-width (sheet_of b) (template (sheet_of b) p side) in
      omega (arith, (template_in (sheet_of b) ok.1 p h side).wide)

  pub can_put : Admitted b × All (SymbolIn (length (sheet_of b).letters) (length (sheet_of b).limits)) (map symbol_of t) × (length (cells (sheet_of b) (map symbol_of t)) ≤ 25)
  can_put = (ok, rw symbols-are (template_in (sheet_of b) ok.1 p h side).symbols, omega (arith, cells_fit))

  module _ (last : List ℕ) (n : ℕ) (put : Puts (replicate 25 255) 0 (map cell_byte (cells (sheet_of b) (map symbol_of t))) last n) where
    put-side : last ≡ side_bytes (cells (sheet_of b) (template (sheet_of b) p side))
    unfolding side_bytes
    put-side =
        put.1
        ∙ placed_front (replicate 25 255) (map cell_byte (cells (sheet_of b) (map symbol_of t)))
        ∙ ap (λ k. map cell_byte (cells (sheet_of b) (map symbol_of t)) ++ drop k (replicate 25 255)) (length-map (cells (sheet_of b) (map symbol_of t)) cell_byte)
        ∙ ap (λ u. map cell_byte (cells (sheet_of b) u) ++ drop (length (cells (sheet_of b) u)) (replicate 25 255)) symbols-are

    pub put_expands : (last ≡ side_bytes (cells (sheet_of b) (template (sheet_of b) p side))) × (n ≡ length (cells (sheet_of b) (template (sheet_of b) p side))) × (n ≤ 24)
    put_expands =
        let k = length-map (cells (sheet_of b) (map symbol_of t)) cell_byte in
        let e = ap (λ u. length (cells (sheet_of b) u)) symbols-are in
        (put-side, omega (arith, put.0), omega (arith, put.0, cells_fit))
