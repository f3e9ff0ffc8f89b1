-- Every variable of a clause whose name is in range is one that the sheet has. Assumes nothing.
use mathlib.Core.Path.{◌≡◌, refl}
use mathlib.Core.Bool.{Bool, true, false}
use mathlib.Core.List.{List}
use Prim.Native.Nat.{ℕ, suc, ◌-◌, ◌<◌, ◌≤◌}
use native.Mathlib.Omega.{arith}
use lib.Dec.{ltb}
use lib.ListN.{length}
use borrow.Author.Tests.{ltb-true}
use Rattle.model.specs.Lists.{up_to, All}
use Rattle.model.specs.Sheet as sheet
use Rattle.model.specs.Sheet.{Symbol, Sheet, limit, constraint, template}
use Rattle.model.specs.Range.{SymbolIn, WellFormed}
use Rattle.model.specs.Cells.{Cell, letter, place, symbol_cells, cells}
use Rattle.formula.specs.Clause.{K, Literal, is, isnt, Term, known, unknown, yes, no, holds, lacks, is_blank, not_blank, only, ClauseId, SomeValue, NotBoth, BlankTail, Start, Left, Right, Both, Match, End, Zero, Add, Bound, terms, literal_of, literals, blank, fields, cell, left_cells, right_cells}
use Rattle.formula.specs.Numbering.{PlaceIn, VariableIn}
use Rattle.formula.specs.Count.{IdIn}
use Rattle.model.proofs.Lists.{weaken, at, map_in, each_in}
use Rattle.model.proofs.Keeping.{below_in}
use Rattle.formula.proofs.Integers.{sum_zero, sum_next}
use Rattle.model.proofs.Templates.{symbols_in}

abbrev pub LiteralIn : Sheet → Literal → Type 0
LiteralIn s (is x) = VariableIn s x
LiteralIn s (isnt x) = VariableIn s x

-- what a term says of a sheet's variables, and a cell of its letters and places
abbrev TermIn : Sheet → Term → Type 0
TermIn s (known b) = Unit
TermIn s (unknown l) = LiteralIn s l

abbrev pub CellIn : Sheet → Cell → Type 0
CellIn s (letter a) = a < blank s
CellIn s (place f c) = PlaceIn s f c

module _ (s : Sheet) where
  symbol_cells_in : (x : Symbol) → SymbolIn (blank s) (fields s) x → All (CellIn s) (symbol_cells s x)
  unfolding All
  symbol_cells_in (sheet.letter a) h = (h, tt)
  symbol_cells_in (sheet.field f) h =
      map_in (CellIn s) (place f) (up_to (limit s f)) (below_in (λ c. CellIn s (place f c)) (limit s f) (λ c l. (h, l)))

  pub cells_in : (t : List Symbol) → All (SymbolIn (blank s) (fields s)) t → All (CellIn s) (cells s t)
  unfolding cells
  cells_in t h = each_in (CellIn s) t (symbol_cells s) (weaken _ _ t symbol_cells_in h)

  -- of a cell: that it is a and that it is not, that it is blank and that it is not
  value_in : (u : Cell) (a : ℕ) → CellIn s u → a ≤ blank s → TermIn s (holds u a) × TermIn s (lacks u a)
  value_in (letter b) a h k = (tt, tt)
  value_in (place f c) a h k = ((h, k), (h, k))

  blank_in : (u : Cell) → CellIn s u → TermIn s (is_blank s u) × TermIn s (not_blank s u)
  blank_in (letter b) h = (tt, tt)
  blank_in (place f c) h = let k : blank s ≤ blank s = omega arith in ((h, k), (h, k))

  only_in : (b : Bool) (t : Term) → (b ≡ true → TermIn s t) → TermIn s (only b t)
  only_in true t h = h refl
  only_in false t h = tt

  literal_in : (t : Term) → TermIn s t → All (LiteralIn s) (literal_of t)
  unfolding All
  literal_in (known b) h = tt
  literal_in (unknown l) h = (h, tt)

module _ (s : Sheet) (ok : WellFormed s) where
  -- a cell of one side of an equation, and that it is blank, where it is there
  module _ (p : ℕ) (h : p < length s.equations) (side i : ℕ) where
    abbrev us : List Cell
    us = cells s (template s p side)

    pub cell_in : i < length us → CellIn s (cell us i)
    cell_in l = at (CellIn s) us i (letter 0) (cells_in s (template s p side) (symbols_in s ok p h side)) l

    if_blank : TermIn s (only (ltb i (length us)) (is_blank s (cell us i)))
    if_blank = only_in s (ltb i (length us)) _ (λ t. (blank_in s (cell us i) (cell_in (ltb-true i _ t))).0)

  terms_in : (q : ClauseId) → IdIn s q → All (TermIn s) (terms s q)
  unfolding terms All
  terms_in (SomeValue f c) h =
      map_in (TermIn s) (λ a. yes (K f c a)) (up_to (suc (blank s)))
      (below_in (λ a. VariableIn s (K f c a)) (suc (blank s)) (λ a l. (h, omega arith)))
  terms_in (NotBoth f c a b) h = let l = h.1 in let m = h.2 in ((h.0, omega arith), ((h.0, m), tt))
  terms_in (BlankTail f c) h = ((h.0, omega arith), (((h.0.0, h.1), omega arith), tt))
  terms_in (Start p) h = ((h, omega arith, omega arith), tt)
  terms_in (Left p i j) h =
      let l = h.0 in
      (l, ((blank_in s (cell (left_cells s p) i) (cell_in p l.0 0 i h.1)).1, ((l.0, h.1, l.2), tt)))
  terms_in (Right p i j) h =
      let l = h.0 in
      (l, (if_blank p l.0 0 i, ((blank_in s (cell (right_cells s p) j) (cell_in p l.0 1 j h.1)).1, ((l.0, l.1, h.1), tt))))
  terms_in (Both p i j) h =
      let l = h.0 in
      let u = cell_in p l.0 0 i h.1 in
      let v = cell_in p l.0 1 j h.2 in
      (l, ((blank_in s (cell (left_cells s p) i) u).0, ((blank_in s (cell (right_cells s p) j) v).0, ((l.0, h.1, h.2), tt))))
  terms_in (Match p i j a) h =
      let l = h.0 in
      let u = cell_in p l.0 0 i h.1 in
      let v = cell_in p l.0 1 j h.2 in
      let k : a ≤ blank s = omega (arith, h.3) in
      (l, ((blank_in s (cell (right_cells s p) j) v).0, ((value_in s (cell (left_cells s p) i) a u k).1, ((value_in s (cell (right_cells s p) j) a v k).0, tt))))
  terms_in (End p i j) h = (h, (if_blank p h.0 1 j, (if_blank p h.0 0 i, tt)))
  terms_in (Zero r) h = ((h, omega arith, sum_zero s (constraint s r)), tt)
  terms_in (Add r k n d) h =
      let f = h.1 in
      let m = h.3 in (
        (h.0, omega arith, h.2),
        (
          only_in s (ltb 0 d) (yes (K k (d - 1) (blank s))) (λ t. let l = ltb-true 0 d t in ((f, omega arith), omega arith)),
          (
            only_in s (ltb d (limit s k)) (no (K k d (blank s))) (λ t. ((f, ltb-true _ _ t), omega arith)),
            ((h.0, f, sum_next s (constraint s r) k n d h.2 m), tt),
          ),
        ),
      )
  terms_in (Bound r n) h = ((h.0, omega arith, h.1), tt)

  pub literals_in : (q : ClauseId) → IdIn s q → All (LiteralIn s) (literals s q)
  unfolding literals
  literals_in q h = each_in (LiteralIn s) (terms s q) literal_of (weaken _ _ (terms s q) (literal_in s) (terms_in q h))
