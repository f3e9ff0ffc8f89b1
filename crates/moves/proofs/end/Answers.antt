-- `moves::end` meets its contract. Assumes nothing.
use mathlib.Core.Path.{refl, ◌∙◌}
use Prim.Native.Nat.{◌≤◌}
use native.Mathlib.Omega.{arith}
use Rattle.model.specs.Sheet.{sheet_of}
use Rattle.formula.specs.Clause.{terms, left_cells, right_cells}
use Rattle.codes.specs.Nine.{nine}
use Rattle.codes.proofs.Laws.{if_blank_code, same-nine, location_few}
use Rattle.moves.proofs.end.Goals as goal
use Rattle.moves.proofs.end.Lts as lts
use Rattle.moves.proofs.end.Reads as reads
use Rattle.moves.proofs.end.Tie as tie

-- a side has few cells
few : (c : lts.Start tie.the-claims reads.Pre reads.Post) → (c.args.i ≤ 24) × (c.args.j ≤ 24)
few c = location_few (sheet_of c.args.sheet.now) c.requires.0.1 c.args.p c.args.i c.args.j c.requires.1

pub blank_code-v-requires : goal.blank_code-v-requires
blank_code-v-requires c =
    (c.requires.0, c.requires.1.0, omega (arith, few c.before.before.before))

pub blank_code-u-requires : goal.blank_code-u-requires
blank_code-u-requires c =
    (c.requires.0, c.requires.1.0, omega (arith, few c.before.before.before.before))

pub returns : goal.returns
unfolding nine terms
returns c =
    let at-location-code = c.location_code-here in
    let s = sheet_of c.args.sheet.now in
    let a = c.args in
    let us = left_cells s a.p in
    let vs = right_cells s a.p in
    same-nine at-location-code.ensures (c.blank_code-v.ensures ∙ if_blank_code s vs a.j) (c.blank_code-u.ensures ∙ if_blank_code s us a.i) refl
