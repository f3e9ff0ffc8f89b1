-- `locations::put_equation` meets its contract. The loop's invariant: after the first line, the lines of the first i rows have been written.
-- Assumes nothing.
use mathlib.Core.Path.{◌≡◌, refl, ap, subst}
use mathlib.Core.List.{List, [], ◌∷◌}
use Prim.Native.Nat.{ℕ, suc, ◌+◌, ◌*◌, ◌≤◌}
use native.Mathlib.Omega.{arith}
use lib.ListN.{length, get_or}
use Rattle.model.specs.Lists.{each, up_to, Puts}
use Rattle.model.specs.Sheet.{Sheet, sheet_of}
use Rattle.formula.specs.Clause.{Start, left_cells}
use Rattle.model.proofs.Pieces.{loop_none, loop_room, loop_next, loop_done}
use Rattle.model.proofs.Seams.{Written}
use Rattle.model.proofs.Writing.{Writing, joined, begin, fits, next, ends}
use Rattle.literals.specs.Name.{line_of}
use Rattle.locations.specs.Lines.{row_lines, equation_lines}
use Rattle.locations.specs.Codes.{row_of, Rowed}
use Rattle.locations.proofs.Rows.{Surveyed, row_told}
use Rattle.locations.proofs.put_equation.Goals as goal
use Rattle.locations.proofs.put_equation.Lts as lts
use Rattle.locations.proofs.put_equation.Reads as reads
use Rattle.locations.proofs.put_equation.Tie as tie

-- how many rows there are
abbrev count : Sheet → ℕ → ℕ
count s p = suc (length (left_cells s p))

-- what is still to be written: the first clause, and the rows
begun : (s : Sheet) (p : ℕ) (b : List ℕ) (at : ℕ) → at + length (equation_lines s p) ≤ length b
    → Writing b at (equation_lines s p) (line_of s (Start p)) (each (up_to (count s p)) (row_lines s p) ∷ []) b at
unfolding joined equation_lines
begun s p b at room = begin b at _ _ _ refl room

pub put_clause-past-requires : goal.put_clause-past-requires
put_clause-past-requires c =
    (c.requires.0, c.requires.1, fits (begun (sheet_of c.args.sheet.now) c.args.p c.args.buf.now c.args.at c.requires.2))

pub loop-i-init : goal.loop-i-init
loop-i-init c = loop_none (row_lines (sheet_of c.args.sheet.now) c.args.p)

-- a turn: what is known of the equation and of the row at hand, and the rows that are to be written
module _ (c : lts.In-loop tie.the-claims reads.Pre reads.Post goal.the-invariant-loop-i goal.the-decreases-loop-i) where
  abbrev s : Sheet
  s = sheet_of c.args.sheet.now

  known : Surveyed s c.args.p c.letters.result c.width-m.result (c.width.result + 1) c.location_code-here.result c.side-left_bytes.result c.side.result c.cell_codes-left_codes.result c.cell_codes.result
  known = record {
    letters_are = c.letters.ensures;
    rows_are = c.width-m.ensures.0;
    row_is = omega (arith, c.width.ensures.0);
    first_is = omega (arith, c.location_code-here.ensures);
    left_bytes = c.side-left_bytes.ensures;
    right_bytes = c.side.ensures;
    left_codes = c.cell_codes-left_codes.ensures;
    right_codes = c.cell_codes.ensures;
  }

  abbrev here : ℕ
  here = c.location_code-here.result + c.loop-i.i * (2 * (c.width.result + 1))

  told : (row_of c.letters.result (c.width.result + 1) here (get_or c.side-left_bytes.result c.loop-i.i 0) (get_or c.cell_codes-left_codes.result c.loop-i.i 0) c.side.result c.cell_codes.result
      ≡ row_lines s c.args.p c.loop-i.i) × Rowed c.letters.result (c.width.result + 1) here (get_or c.cell_codes-left_codes.result c.loop-i.i 0) c.side.result c.cell_codes.result
  told = row_told s c.requires.0.1 c.args.p c.requires.1 _ _ _ _ _ _ _ _ known c.loop-i.i (omega (arith, c.loop-i-test.true))

  rows : Writing c.args.buf.now c.args.at (equation_lines s c.args.p) (each (up_to (count s c.args.p)) (row_lines s c.args.p)) [] c.put_clause-past.new.buf c.put_clause-past.result
  rows = next (begun s c.args.p c.args.buf.now c.args.at c.requires.2) c.put_clause-past.ensures c.put_clause-past.auto.buf

  -- the row has been written
  row-written : (b : List ℕ) (q : ℕ)
      → Puts c.loop-i.buf c.loop-i.past (row_of c.letters.result (c.width.result + 1) here (get_or c.side-left_bytes.result c.loop-i.i 0) (get_or c.cell_codes-left_codes.result c.loop-i.i 0) c.side.result c.cell_codes.result) b q
      → length b ≡ length c.loop-i.buf
      → Written c.put_clause-past.new.buf c.put_clause-past.result (each (up_to (c.loop-i.i + 1)) (row_lines s c.args.p)) b q
  row-written b q put long =
      loop_next (row_lines s c.args.p) (count s c.args.p) (fits rows) c.loop-i.invariant (omega (arith, c.width-m.ensures.0, c.loop-i-test.true)) b q
      (subst (λ w. Puts c.loop-i.buf c.loop-i.past w b q) told.0 put) long

pub overflow_add-here : goal.overflow_add-here
overflow_add-here c = omega (arith, (told c.before.before.before).1.at_here)

pub put_row-past-requires : goal.put_row-past-requires
put_row-past-requires c =
    let free = loop_room (row_lines (sheet_of c.args.sheet.now) c.args.p) (count (sheet_of c.args.sheet.now) c.args.p) (fits (rows c.before.before.before)) c.loop-i.invariant (omega (arith, c.width-m.ensures.0, c.loop-i-test.true)) in
    ((told c.before.before.before).1, omega (arith, ap length (told c.before.before.before).0))

pub loop-i-preserved : goal.loop-i-preserved
loop-i-preserved c = row-written c.before.before.before.before.before.before _ _ c.put_row-past.ensures c.put_row-past.auto.buf

pub returns : goal.returns
returns c =
    let s = sheet_of c.args.sheet.now in
    let rows = next (begun s c.args.p c.args.buf.now c.args.at c.requires.2) c.put_clause-past.ensures c.put_clause-past.auto.buf in
    ends _ _ rows (loop_done (row_lines s c.args.p) (count s c.args.p) (fits rows) c.loop-i.invariant (omega (arith, c.width-m.ensures.0))) c.loop-i.invariant.long
