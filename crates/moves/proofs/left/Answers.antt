-- `moves::left` meets its contract. Assumes nothing.
use mathlib.Core.Path.{◌≡◌, refl, ap, ◌∙◌}
use Prim.Native.Nat.{suc, ◌+◌, ◌*◌, ◌≤◌}
use native.Mathlib.Omega.{arith}
use Rattle.model.specs.Sheet.{sheet_of}
use Rattle.formula.specs.Clause.{S, terms, left_cells, right_cells}
use Rattle.formula.specs.Numbering.{number}
use Rattle.codes.specs.Nine.{nine}
use Rattle.codes.proofs.Laws.{not_blank_code, same-nine, location_few}
use Rattle.moves.proofs.left.Goals as goal
use Rattle.moves.proofs.left.Lts as lts
use Rattle.moves.proofs.left.Reads as reads
use Rattle.moves.proofs.left.Tie as tie

-- a side has few cells
few : (c : lts.Start tie.the-claims reads.Pre reads.Post) → (c.args.i ≤ 24) × (c.args.j ≤ 24)
few c = location_few (sheet_of c.args.sheet.now) c.requires.0.1 c.args.p c.args.i c.args.j c.requires.1.0

pub blank_code-u-requires : goal.blank_code-u-requires
blank_code-u-requires c =
    (c.requires.0, c.requires.1.0.0, omega (arith, few c.before.before.before))

pub overflow_add-i : goal.overflow_add-i
overflow_add-i c =
    omega (arith, few c.before.before.before.before)

pub returns : goal.returns
unfolding nine terms
returns c =
    let at-location-code = c.location_code-here in
    let s = sheet_of c.args.sheet.now in
    let a = c.args in
    let us = left_cells s a.p in
    let vs = right_cells s a.p in
    let ei : a.i + 1 ≡ suc a.i = omega arith in
    let next = c.location_code-next.ensures ∙ ap (λ n. 2 * number s (S a.p n a.j) + 0) ei in
    same-nine at-location-code.ensures (c.blank_code-u.ensures ∙ not_blank_code s us a.i c.requires.1.1) (omega arith) refl
