-- `sides::put_side` meets its contract: of the bytes of a side the first are its cells. Assumes nothing.
use mathlib.Core.Path.{◌≡◌, sym, ap, subst, ◌∙◌}
use mathlib.Core.List.{List, map}
use Prim.Native.Nat.{ℕ}
use native.Mathlib.Omega.{arith}
use lib.ListN.{length, take, drop, replicate, length-map}
use lib.Seq.{take_at}
use Rattle.model.specs.Lists.{All}
use Rattle.model.specs.Sheet.{sheet_of, template}
use Rattle.model.specs.Cells.{Cell, cells}
use Rattle.model.proofs.Templates.{symbols_in, well_formed}
use Rattle.shape.specs.Bytes.{cell_byte, side_bytes}
use Rattle.trails.specs.Mirror.{template_cells}
use Rattle.sides.specs.Reversal.{ByteIn}
use Rattle.sides.proofs.Flat.{facing-width}
use Rattle.sides.proofs.Reversal.{template_bytes_lem, facing_turns}
use Rattle.sides.proofs.put_side.Goals as goal
use Rattle.sides.proofs.put_side.Lts as lts
use Rattle.sides.proofs.put_side.Reads as reads
use Rattle.sides.proofs.put_side.Tie as tie

first-cells : (us : List Cell) (n : ℕ) (side : List ℕ) → side ≡ side_bytes us → n ≡ length us → take n side ≡ map cell_byte us
unfolding side_bytes
first-cells us n side e k = ap (take n) e ∙ take_at (map cell_byte us) (drop (length us) (replicate 25 255)) n (length-map us cell_byte ∙ sym k)

-- the cells that are lent: as many as the side is wide, at most 24
lent : (c : lts.After-cells tie.the-claims reads.Pre reads.Post)
    → take c.width-n.result c.side-cells.result
    ≡ template_cells (sheet_of c.args.sheet.now)
    (template (sheet_of c.args.sheet.now) c.args.p c.args.side)
lent c =
    let at_Side = c.side-cells in
    let a = c.args in
    let s = sheet_of a.sheet.now in
    first-cells (cells s (template s a.p a.side)) c.width-n.result at_Side.result at_Side.ensures c.width-n.ensures.0

lent_length : (c : lts.After-cells tie.the-claims reads.Pre reads.Post) → length (take c.width-n.result c.side-cells.result) ≡ c.width-n.result
lent_length c =
    let a = c.args in
    let s = sheet_of a.sheet.now in
    ap length (lent c) ∙ length-map (cells s (template s a.p a.side)) cell_byte ∙ sym c.width-n.ensures.0

pub put_cells-requires : goal.put_cells-requires
put_cells-requires c =
    let a = c.args in
    let s = sheet_of a.sheet.now in
    let ok = c.requires.0.1 in
    let n = lent_length c.before in
    (c.requires.0, subst (All (ByteIn s)) (sym (lent c.before)) (template_bytes_lem s ok (template s a.p a.side) (symbols_in s (well_formed s ok) a.p c.requires.1 a.side)), omega (arith, c.requires.2))

pub returns : goal.returns
returns c =
    let at-put = c.before.before.before in
    let a = at-put.args in
    let s = sheet_of a.sheet.now in
    let ok = at-put.requires.0.1 in
    let t = template s a.p a.side in
    let e = rw (lent at-put.before, facing_turns s ok a.back t (symbols_in s (well_formed s ok) a.p at-put.requires.1 a.side)) at at-put.put_cells.ensures in
    let n = facing-width s a.back t in
    let m = length-map (cells s t) cell_byte in
    let few = at-put.width-n.ensures in
    (e, omega (arith, e.0, few.0, few.1))
