-- Templates as cells. Over the letters 0 .. L-1 the number L stands for blank.
use Rattle.std.specs.Prelude.{List, [], ◌∷◌, ◌++◌, map, ℕ, eqb, get_or}
use Rattle.model.specs.Lists.{pick, each, up_to}
use Rattle.model.specs.Sheet as sheet
use Rattle.model.specs.Sheet.{Symbol, Sheet, limit}
use Rattle.model.specs.Word.{Substitution, text}

-- "A template becomes cells: a letter, or place c of field f, repeated as the field repeats." (Document 000: filled variables, with λ for
-- a blank.)
pub data Cell : Type 0 where
  letter : ℕ → Cell
  place : ℕ → ℕ → Cell

abbrev pub symbol_cells : Sheet → Symbol → List Cell
symbol_cells s (sheet.letter a) = letter a ∷ []
symbol_cells s (sheet.field f) = map (place f) (up_to (limit s f))

unfoldable pub cells : Sheet → List Symbol → List Cell
cells s t = each t (symbol_cells s)

-- What a cell is under a substitution: a letter, or L for blank. "A letter cell is never blank."
abbrev pub value : ℕ → Substitution → Cell → ℕ
value l g (letter a) = a
value l g (place f c) = get_or (text g f) c l

-- A list of values without the blanks.
unfoldable pub unblank : ℕ → List ℕ → List ℕ
unblank l [] = []
unblank l (x ∷ xs) = pick (eqb x l) [] (x ∷ []) ++ unblank l xs

-- the non-blank values of cells, in order
abbrev pub values : ℕ → Substitution → List Cell → List ℕ
values l g us = unblank l (map (value l g) us)
