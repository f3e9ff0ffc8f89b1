-- `moves::right` meets its contract. Assumes nothing.
use mathlib.Core.Path.{◌≡◌, ap, ◌∙◌}
use Prim.Native.Nat.{suc, ◌+◌, ◌*◌, ◌≤◌}
use native.Mathlib.Omega.{arith}
use Rattle.model.specs.Sheet.{sheet_of}
use Rattle.formula.specs.Clause.{S, terms, left_cells, right_cells}
use Rattle.formula.specs.Numbering.{number}
use Rattle.codes.specs.Nine.{nine}
use Rattle.codes.proofs.Laws.{not_blank_code, if_blank_code, same-nine, location_few}
use Rattle.moves.proofs.right.Goals as goal
use Rattle.moves.proofs.right.Lts as lts
use Rattle.moves.proofs.right.Reads as reads
use Rattle.moves.proofs.right.Tie as tie

-- a side has few cells
few : (c : lts.Start tie.the-claims reads.Pre reads.Post) → (c.args.i ≤ 24) × (c.args.j ≤ 24)
few c = location_few (sheet_of c.args.sheet.now) c.requires.0.1 c.args.p c.args.i c.args.j c.requires.1.0

pub blank_code-u-requires : goal.blank_code-u-requires
blank_code-u-requires c =
    (c.requires.0, c.requires.1.0.0, omega (arith, few c.before.before.before))

pub blank_code-v-requires : goal.blank_code-v-requires
blank_code-v-requires c =
    (c.requires.0, c.requires.1.0.0, omega (arith, few c.before.before.before.before))

pub overflow_add-j : goal.overflow_add-j
overflow_add-j c =
    omega (arith, few c.before.before.before.before.before)

pub returns : goal.returns
unfolding nine terms
returns c =
    let at-location-code = c.location_code-here in
    let at-blank-code = c.blank_code-u in
    let s = sheet_of c.args.sheet.now in
    let a = c.args in
    let us = left_cells s a.p in
    let vs = right_cells s a.p in
    let ej : a.j + 1 ≡ suc a.j = omega arith in
    let next = c.location_code-next.ensures ∙ ap (λ n. 2 * number s (S a.p a.i n) + 0) ej in
    same-nine at-location-code.ensures (at-blank-code.ensures ∙ if_blank_code s us a.i) (c.blank_code-v.ensures ∙ not_blank_code s vs a.j c.requires.1.1) (omega arith)
