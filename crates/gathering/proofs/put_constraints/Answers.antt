-- `gathering::put_constraints` meets its contract. The loop's invariant: the rows of the asked ones of the first r constraints have been put. Assumes nothing.
use mathlib.Core.Path.{refl}
use mathlib.Core.List.{List, []}
use Prim.Native.Nat.{ℕ, ◌+◌, ◌*◌, ◌≤◌}
use native.Mathlib.Omega.{arith}
use lib.IntN.{pos}
use lib.ListN.{length}
use Rattle.model.specs.Sheet.{sheet_of}
use Rattle.model.specs.Range.{Admitted}
use Rattle.formula.proofs.Small.{constraints-few}
use Rattle.inequalities.specs.Rows.{constraint_rows}
use Rattle.inequalities.proofs.Agreement.{constraint_sizes}
use Rattle.gathering.proofs.Steps.{put_begins, put_turn, put-room, put-ends}
use Rattle.gathering.proofs.put_constraints.Goals as goal

-- there is room for the rows of all
room : (sheet rows : List ℕ) (start : ℕ) → Admitted sheet → start ≤ 8 → 168 ≤ length rows → 14 * (start + 1 * length (sheet_of sheet).constraints) ≤ length rows
room sheet rows start ok low h = let few = constraints-few (sheet_of sheet) ok.1 in omega arith

pub loop-r-init : goal.loop-r-init
loop-r-init c =
    let a = c.args in
    put_begins constraint_rows 1 a.marks (sheet_of a.sheet.now).constraints a.rows.now a.start

pub bounds-marks-r : goal.bounds-marks-r
bounds-marks-r c =
    let few = constraints-few (sheet_of c.args.sheet.now) c.requires.0.1 in
    omega (arith, c.constraints-r-end.ensures)

pub put_constraint-i-requires : goal.put_constraint-i-requires
put_constraint-i-requires c =
    let a = c.args in
    let l = c.loop-r in
    let left = put-room constraint_rows 1 a.marks (sheet_of a.sheet.now).constraints a.rows.now a.start (λ x. (refl, constraint_sizes x)) (room a.sheet.now a.rows.now a.start c.requires.0 c.requires.1 c.requires.2) l.rows l.i l.r l.invariant (omega (arith, c.constraints-r-end.ensures)) in
    (c.requires.0, omega (arith, c.constraints-r-end.ensures), omega arith)

pub loop-r-preserved : goal.loop-r-preserved
loop-r-preserved c =
    let a = c.args in
    let l = c.loop-r in
    let put = c.put_constraint-i in
    put_turn constraint_rows 1 a.marks (sheet_of a.sheet.now).constraints a.rows.now a.start (λ x. (refl, constraint_sizes x)) (room a.sheet.now a.rows.now a.start c.requires.0 c.requires.1 c.requires.2) l.rows put.new.rows l.i put.result l.r (record { coefficients = []; most = pos 0 }) l.invariant (omega (arith, c.constraints-r-end.ensures)) put.ensures put.auto.rows

pub returns : goal.returns
returns c =
    let a = c.args in
    let l = c.loop-r in
    let few = constraints-few (sheet_of a.sheet.now) c.requires.0.1 in
    let ends = put-ends constraint_rows 1 a.marks (sheet_of a.sheet.now).constraints a.rows.now a.start l.rows l.i l.r l.invariant (omega (arith, c.constraints-r-end.ensures)) in
    (ends.0, omega (arith, ends.1, c.requires))
