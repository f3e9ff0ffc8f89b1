-- `moves::matching` meets its contract. Assumes nothing.
use mathlib.Core.Path.{◌∙◌}
use Prim.Native.Nat.{◌≤◌}
use native.Mathlib.Omega.{arith}
use Rattle.model.specs.Sheet.{sheet_of}
use Rattle.formula.specs.Clause.{terms, left_cells, right_cells}
use Rattle.codes.specs.Nine.{nine}
use Rattle.codes.proofs.Laws.{holds_code, lacks_code, blank_code, same-nine, location_few}
use Rattle.moves.proofs.matching.Goals as goal
use Rattle.moves.proofs.matching.Lts as lts
use Rattle.moves.proofs.matching.Reads as reads
use Rattle.moves.proofs.matching.Tie as tie

-- a side has few cells
few : (c : lts.Start tie.the-claims reads.Pre reads.Post) → (c.args.i ≤ 24) × (c.args.j ≤ 24)
few c = location_few (sheet_of c.args.sheet.now) c.requires.0.1 c.args.p c.args.i c.args.j c.requires.1.0

pub blank_code-blank-requires : goal.blank_code-blank-requires
blank_code-blank-requires c =
    (c.requires.0, c.requires.1.0.0, omega (arith, few c.before.before.before))

pub cell_code-u-requires : goal.cell_code-u-requires
cell_code-u-requires c =
    (c.requires.0, c.requires.1.0.0, omega (arith, few c.before.before.before.before), omega (arith, c.requires.1))

pub cell_code-v-requires : goal.cell_code-v-requires
cell_code-v-requires c =
    (c.requires.0, c.requires.1.0.0, omega (arith, few c.before.before.before.before.before), omega (arith, c.requires.1))

pub returns : goal.returns
unfolding nine terms
returns c =
    let at-location-code = c.location_code-here in
    let at-blank-code = c.blank_code-blank in
    let s = sheet_of c.args.sheet.now in
    let a = c.args in
    let us = left_cells s a.p in
    let vs = right_cells s a.p in
    same-nine at-location-code.ensures (at-blank-code.ensures ∙ blank_code s vs a.j c.requires.1.2) (c.cell_code-u.ensures ∙ lacks_code s us a.i a.a c.requires.1.1) (c.cell_code-v.ensures ∙ holds_code s vs a.j a.a c.requires.1.2)
