-- `size_location::equation_size` meets its contract. The loop's invariant: the sum is that of the first line and the first i rows. Assumes nothing.
use mathlib.Core.Path.{◌≡◌, ap}
use Prim.Native.Nat.{ℕ, suc, ◌+◌, ◌*◌, ◌≤◌}
use native.Mathlib.Omega.{arith}
use lib.ListN.{length, get_or}
use Rattle.model.specs.Lists.{each, up_to}
use Rattle.model.specs.Sheet.{Sheet, sheet_of}
use Rattle.formula.specs.Clause.{S, left_cells}
use Rattle.formula.specs.Numbering.{number}
use Rattle.dimacs.specs.Codes.{code_size}
use Rattle.locations.specs.Lines.{row_lines}
use Rattle.locations.specs.Codes.{row_of, Rowed}
use Rattle.locations.proofs.Rows.{Surveyed, location_few, row_told, row-places}
use Rattle.model.proofs.Keeping.{length_none, length_more}
use Rattle.size_location.proofs.Laws.{equation-lines}
use Rattle.size_location.proofs.equation_size.Goals as goal
use Rattle.size_location.proofs.equation_size.Lts as lts
use Rattle.size_location.proofs.equation_size.Reads as reads
use Rattle.size_location.proofs.equation_size.Tie as tie

pub literal_size-sum-requires : goal.literal_size-sum-requires
literal_size-sum-requires c =
    omega (arith, c.location_code-here.ensures, location_few (sheet_of c.args.sheet.now) c.requires.0.1 c.args.p c.requires.1 0 (omega arith))

pub loop-i-init : goal.loop-i-init
loop-i-init c =
    let none = length_none (row_lines (sheet_of c.args.sheet.now) c.args.p) in
    (omega arith, omega (arith, c.literal_size-sum.ensures.1))

-- a turn: what is known of the equation and of the row at hand
module _ (c : lts.In-loop tie.the-claims reads.Pre reads.Post goal.the-invariant-loop-i goal.the-decreases-loop-i) where
  abbrev s : Sheet
  s = sheet_of c.args.sheet.now

  known : Surveyed s c.args.p c.letters.result c.width-m.result (c.width.result + 1) c.location_code-here.result c.side-left_bytes.result c.side.result c.cell_codes-left_codes.result c.cell_codes.result
  known = record {
    letters_are = c.letters.ensures;
    rows_are = c.width-m.ensures.0;
    row_is = omega (arith, c.width.ensures.0);
    first_is = omega (arith, c.location_code-here.ensures);
    left_bytes = c.side-left_bytes.ensures;
    right_bytes = c.side.ensures;
    left_codes = c.cell_codes-left_codes.ensures;
    right_codes = c.cell_codes.ensures;
  }

  abbrev here : ℕ
  here = c.location_code-here.result + c.loop-i.i * (2 * (c.width.result + 1))

  within : c.loop-i.i ≤ c.width-m.result
  within = omega (arith, c.loop-i-test.true)

  told : (row_of c.letters.result (c.width.result + 1) here (get_or c.side-left_bytes.result c.loop-i.i 0) (get_or c.cell_codes-left_codes.result c.loop-i.i 0) c.side.result c.cell_codes.result
      ≡ row_lines s c.args.p c.loop-i.i) × Rowed c.letters.result (c.width.result + 1) here (get_or c.cell_codes-left_codes.result c.loop-i.i 0) c.side.result c.cell_codes.result
  told = row_told s c.requires.0.1 c.args.p c.requires.1 _ _ _ _ _ _ _ _ known c.loop-i.i within

pub overflow_add-here : goal.overflow_add-here
overflow_add-here c = omega (arith, (told c.before.before).1.at_here)

pub row_size-sum-requires : goal.row_size-sum-requires
row_size-sum-requires c =
    let turn = c.before.before in
    ((told turn).1, row-places (sheet_of c.args.sheet.now) c.requires.0.1 c.args.p c.requires.1 _ _ _ _ _ _ _ _ (known turn) c.loop-i.i (within turn))

pub overflow_add-sum-in-loop-i : goal.overflow_add-sum-in-loop-i
overflow_add-sum-in-loop-i c = omega (arith, c.loop-i.invariant.1, c.loop-i-test.true, c.width-m.ensures.1, c.row_size-sum.ensures.1)

pub loop-i-preserved : goal.loop-i-preserved
loop-i-preserved c =
    let l = c.loop-i in
    let more = length_more (row_lines (sheet_of c.args.sheet.now) c.args.p) l.i in
    let row = ap length (told c.before.before.before).0 in
    (omega (arith, l.invariant.0, c.row_size-sum.ensures.0), omega (arith, l.invariant.1, c.row_size-sum.ensures.1))

pub returns : goal.returns
returns c =
    let l = c.loop-i in
    let s = sheet_of c.args.sheet.now in
    let e : l.i ≡ suc (length (left_cells s c.args.p)) = omega (arith, c.width-m.ensures.0) in
    let rows = ap (λ k. length (each (up_to k) (row_lines s c.args.p))) e in
    let code : c.location_code-here.result ≡ 2 * number s (S c.args.p 0 0) = omega (arith, c.location_code-here.ensures) in
    let line = ap code_size code in
    (omega (arith, l.invariant.0, c.literal_size-sum.ensures.0, equation-lines s c.args.p), omega (arith, l.invariant.1, c.width-m.ensures.1))
