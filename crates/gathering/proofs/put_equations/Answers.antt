-- `gathering::put_equations` meets its contract. The loop's invariant: the rows of the asked ones of the first p equations have been put. Assumes nothing.
use mathlib.Core.Path.{refl}
use mathlib.Core.List.{List, []}
use Prim.Native.Nat.{ℕ, ◌+◌, ◌*◌, ◌≤◌}
use native.Mathlib.Omega.{arith}
use lib.ListN.{length}
use Rattle.model.specs.Sheet.{sheet_of}
use Rattle.model.specs.Range.{Admitted}
use Rattle.formula.proofs.Small.{equations-few}
use Rattle.inequalities.specs.Rows.{equation_rows}
use Rattle.inequalities.proofs.Agreement.{equation_sizes}
use Rattle.gathering.proofs.Steps.{put_begins, put_turn, put-room, put-ends}
use Rattle.gathering.proofs.put_equations.Goals as goal

-- there is room for the rows of all
room : (sheet rows : List ℕ) → Admitted sheet → 168 ≤ length rows → 14 * (0 + 2 * length (sheet_of sheet).equations) ≤ length rows
room sheet rows ok h = let few = equations-few (sheet_of sheet) ok.1 in omega arith

pub loop-p-init : goal.loop-p-init
loop-p-init c =
    let a = c.args in
    put_begins equation_rows 2 a.marks (sheet_of a.sheet.now).equations a.rows.now 0

pub bounds-marks-p : goal.bounds-marks-p
bounds-marks-p c =
    let few = equations-few (sheet_of c.args.sheet.now) c.requires.0.1 in
    omega (arith, c.equations-p-end.ensures)

pub put_equation-i-requires : goal.put_equation-i-requires
put_equation-i-requires c =
    let a = c.args in
    let l = c.loop-p in
    let left = put-room equation_rows 2 a.marks (sheet_of a.sheet.now).equations a.rows.now 0 (λ x. (refl, equation_sizes x)) (room a.sheet.now a.rows.now c.requires.0 c.requires.1) l.rows l.i l.p l.invariant (omega (arith, c.equations-p-end.ensures)) in
    (c.requires.0, omega (arith, c.equations-p-end.ensures), omega arith)

pub loop-p-preserved : goal.loop-p-preserved
loop-p-preserved c =
    let a = c.args in
    let l = c.loop-p in
    let put = c.put_equation-i in
    put_turn equation_rows 2 a.marks (sheet_of a.sheet.now).equations a.rows.now 0 (λ x. (refl, equation_sizes x)) (room a.sheet.now a.rows.now c.requires.0 c.requires.1) l.rows put.new.rows l.i put.result l.p (record { left = []; right = [] }) l.invariant (omega (arith, c.equations-p-end.ensures)) put.ensures put.auto.rows

pub returns : goal.returns
returns c =
    let a = c.args in
    let l = c.loop-p in
    let few = equations-few (sheet_of a.sheet.now) c.requires.0.1 in
    let ends = put-ends equation_rows 2 a.marks (sheet_of a.sheet.now).equations a.rows.now 0 l.rows l.i l.p l.invariant (omega (arith, c.equations-p-end.ensures)) in
    (ends.0, omega (arith, ends.1, c.requires))
