-- `locations::cell_codes` meets its contract. The loop's invariant: the first i codes have been stored. Assumes nothing.
use mathlib.Core.Path.{◌≡◌, refl, ap, ◌∙◌}
use mathlib.Core.List.{◌++◌, map, append-nil}
use Prim.Native.Nat.{ℕ}
use native.Mathlib.Omega.{arith}
use lib.ListN.{replicate, drop, length-map}
use Rattle.model.specs.Lists.{up_to, from}
use Rattle.model.specs.Sheet.{sheet_of, template}
use Rattle.model.specs.Cells.{cells}
use Rattle.model.proofs.Keeping.{map_next, length_from}
use Rattle.model.proofs.Seams.{store_next}
use Rattle.codes.specs.Cell.{cell_code}
use Rattle.locations.proofs.cell_codes.Goals as goal

pub loop-i-init : goal.loop-i-init
unfolding from
loop-i-init c = refl

pub cell_code-requires : goal.cell_code-requires
cell_code-requires c =
    let at-loop-test = c.loop-i-test in
    (c.requires.0, c.requires.1, omega (arith, at-loop-test.true), omega arith)

pub loop-i-preserved : goal.loop-i-preserved
loop-i-preserved c =
    let at-loop = c.loop-i in
    let at-loop-test = c.loop-i-test in
    let at-cell-code = c.cell_code in
    let i = at-loop.i in
    let g : ℕ → ℕ = λ i. cell_code (sheet_of c.args.sheet.now) (cells (sheet_of c.args.sheet.now) (template (sheet_of c.args.sheet.now) c.args.p c.args.side)) i 0 0 in
    let n = length-map (up_to i) g ∙ length_from 0 i in
    rw (at-loop.invariant, at-cell-code.ensures, map_next g i) (store_next (map g (up_to i)) (replicate 25 0) i (g i) n (omega (arith, at-loop-test.true)))

pub returns : goal.returns
returns c =
    let at-loop = c.loop-i in
    let g : ℕ → ℕ = λ i. cell_code (sheet_of c.args.sheet.now) (cells (sheet_of c.args.sheet.now) (template (sheet_of c.args.sheet.now) c.args.p c.args.side)) i 0 0 in
    let e : at-loop.i ≡ 25 = omega arith in
    at-loop.invariant ∙ ap (λ n. map g (up_to n) ++ drop n (replicate 25 0)) e ∙ append-nil (map g (up_to 25))
