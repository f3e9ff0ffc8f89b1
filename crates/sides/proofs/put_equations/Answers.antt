-- `sides::put_equations` meets its contract: after p turns the asked ones of the first p equations stand at the front. Assumes
-- nothing.
use Prim.Native.Nat.{◌<◌}
use native.Mathlib.Omega.{arith}
use lib.ListN.{length}
use Rattle.model.specs.Sheet.{sheet_of}
use Rattle.formula.proofs.Small.{equations-few}
use Rattle.sides.proofs.Flat.{front_none, front_skips, front_takes}
use Rattle.sides.proofs.put_equations.Goals as goal
use Rattle.sides.proofs.put_equations.Goals.{then-marks-p, else-marks-p}

pub loop-p-init : goal.loop-p-init
loop-p-init c =
    let a = c.args in
    front_none (sheet_of a.sheet.now) a.back a.marks a.x.now a.w.now

pub loop-p-preserved : goal.loop-p-preserved
loop-p-preserved c =
    let m = sheet_of c.args.sheet.now in
    let few = equations-few m c.requires.0.1 in
    let p = c.loop-p.p in
    let inside : p < length m.equations = omega (arith, c.equations-p-end.ensures) in
    let there = c.loop-p.invariant in
    elim c.if-marks-p.branch [
      | then-marks-p w ↦
          let put = w.put_equation-sizes in
          rw (w.x-is, w.w-is, w.sizes-is)
          (front_takes m c.args.back c.args.marks c.args.x.now c.args.w.now p c.loop-p.x c.loop-p.w c.loop-p.sizes inside there w.if-marks-p.true c.requires.1 c.requires.2 (omega arith)
          put.new.x put.new.w put.result put.ensures put.auto.x put.auto.w)
      | else-marks-p w ↦ rw (w.x-is, w.w-is, w.sizes-is) (front_skips m c.args.back c.args.marks c.args.x.now c.args.w.now p c.loop-p.x c.loop-p.w c.loop-p.sizes inside there w.if-marks-p.false)
    ]
