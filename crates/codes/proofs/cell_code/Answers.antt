-- `codes::cell_code` meets its contract. Assumes nothing.
use mathlib.Core.Path.{ap, ◌∙◌}
use mathlib.Core.List.{List}
use Prim.Native.Nat.{ℕ, ◌+◌, ◌*◌, ◌/◌, ◌%◌}
use lib.ListN.{get_or}
use Rattle.model.specs.Sheet.{sheet_of}
use Rattle.formula.specs.Clause.{K}
use Rattle.formula.specs.Numbering.{number}
use Rattle.codes.proofs.Laws.{low_code, used_code, place_code_lem}
use Rattle.codes.specs.Sign.{sign_number}
use Rattle.codes.proofs.cell_code.Goals as goal
use Rattle.codes.proofs.cell_code.Goals.{then-x-lt-FIRST_PLACE-via-then-x-lt-FIRST_PLACE, then-x-lt-FIRST_PLACE-via-else-x-lt-FIRST_PLACE+then-x}

pub returns-then-x-lt-FIRST_PLACE : goal.returns-then-x-lt-FIRST_PLACE
returns-then-x-lt-FIRST_PLACE c =
    let a = c.args in
    let is = ap (λ (xs : List ℕ). get_or xs a.i 0) c.side.ensures in
    elim c.then-x-lt-FIRST_PLACE.branch [
      | then-x-lt-FIRST_PLACE-via-then-x-lt-FIRST_PLACE w ↦ low_code (sheet_of a.sheet.now) c.requires.0.1 a.p c.requires.1 a.side a.i c.requires.2 a.a (sign_number a.sign) (get_or c.side.result a.i 0) is w.if-x-lt-FIRST_PLACE.true
      | then-x-lt-FIRST_PLACE-via-else-x-lt-FIRST_PLACE+then-x w ↦ used_code (sheet_of a.sheet.now) c.requires.0.1 a.p c.requires.1 a.side a.i c.requires.2 a.a (sign_number a.sign) (get_or c.side.result a.i 0) is w.if-x.true
    ]

pub place_code-requires : goal.place_code-requires
place_code-requires c =
    let at_Side = c.side in
    let at-if1 = c.if-x-lt-FIRST_PLACE in
    rw c.from-place.ensures (c.requires.0, (place_code_lem (sheet_of c.args.sheet.now) c.requires.0.1 c.args.p c.requires.1 c.args.side c.args.i c.requires.2 c.args.a (sign_number c.args.sign) (get_or at_Side.result c.args.i 0) (ap (λ (xs : List ℕ). get_or xs c.args.i 0) at_Side.ensures) at-if1.false c.if-x.false c.requires.3).0)

pub returns : goal.returns
returns c =
    let at_Side = c.side in
    let at-if1 = c.if-x-lt-FIRST_PLACE in
    let at-if2 = c.if-x in
    let is = (place_code_lem (sheet_of c.args.sheet.now) c.requires.0.1 c.args.p c.requires.1 c.args.side c.args.i c.requires.2 c.args.a (sign_number c.args.sign) (get_or at_Side.result c.args.i 0) (ap (λ (xs : List ℕ). get_or xs c.args.i 0) at_Side.ensures) at-if1.false at-if2.false c.requires.3).1 in
    let e = ap (λ k. 2 * number (sheet_of c.args.sheet.now) (K (k / 8) (k % 8) c.args.a) + (sign_number c.args.sign)) c.from-place.ensures in
    c.place_code.ensures ∙ e ∙ is
