-- `moves::both` meets its contract. Assumes nothing.
use mathlib.Core.Path.{◌≡◌, ap, ◌∙◌}
use Prim.Native.Nat.{suc, ◌+◌, ◌*◌, ◌≤◌}
use native.Mathlib.Omega.{arith}
use Rattle.model.specs.Sheet.{sheet_of}
use Rattle.formula.specs.Clause.{S, terms, left_cells, right_cells}
use Rattle.formula.specs.Numbering.{number}
use Rattle.codes.specs.Nine.{nine}
use Rattle.codes.proofs.Laws.{blank_code, same-nine, location_few}
use Rattle.moves.proofs.both.Goals as goal
use Rattle.moves.proofs.both.Lts as lts
use Rattle.moves.proofs.both.Reads as reads
use Rattle.moves.proofs.both.Tie as tie

-- a side has few cells
few : (c : lts.Start tie.the-claims reads.Pre reads.Post) → (c.args.i ≤ 24) × (c.args.j ≤ 24)
few c = location_few (sheet_of c.args.sheet.now) c.requires.0.1 c.args.p c.args.i c.args.j c.requires.1.0

pub blank_code-first-requires : goal.blank_code-first-requires
blank_code-first-requires c =
    (c.requires.0, c.requires.1.0.0, omega (arith, few c.before.before.before))

pub blank_code-second-requires : goal.blank_code-second-requires
blank_code-second-requires c =
    (c.requires.0, c.requires.1.0.0, omega (arith, few c.before.before.before.before))

pub overflow_add-i : goal.overflow_add-i
overflow_add-i c =
    omega (arith, few c.before.before.before.before.before)

pub overflow_add-j : goal.overflow_add-j
overflow_add-j c =
    omega (arith, few c.before.before.before.before.before)

pub returns : goal.returns
unfolding nine terms
returns c =
    let at-location-code = c.location_code-here in
    let at-blank-code = c.blank_code-first in
    let s = sheet_of c.args.sheet.now in
    let a = c.args in
    let us = left_cells s a.p in
    let vs = right_cells s a.p in
    let ei : a.i + 1 ≡ suc a.i = omega arith in
    let ej : a.j + 1 ≡ suc a.j = omega arith in
    let next = c.location_code-next.ensures ∙ ap (λ n. 2 * number s (S a.p n (a.j + 1)) + 0) ei ∙ ap (λ n. 2 * number s (S a.p (suc a.i) n) + 0) ej in
    same-nine at-location-code.ensures (at-blank-code.ensures ∙ blank_code s us a.i c.requires.1.1) (c.blank_code-second.ensures ∙ blank_code s vs a.j c.requires.1.2) (omega arith)
