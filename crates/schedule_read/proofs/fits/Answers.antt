-- `schedule_read::fits` meets its contract. The loop's invariant: what is left from here on fits exactly when all of it does. Assumes nothing.
use mathlib.Core.Path.{◌≡◌, sym, ap, ◌∙◌}
use Prim.Native.Nat.{◌-◌}
use native.Mathlib.Omega.{arith}
use Rattle.schedule.specs.Offsets.{fits}
use Rattle.schedule.proofs.Turns.{fits_missing, fits-above, fits_goes, fits_done}
use Rattle.schedule_read.proofs.fits.Goals.{then-hours-at-via-then-hours-at, then-hours-at-via-else-hours-at+then-hours-at-gt-MOST_INTERVALS}
use Rattle.schedule_read.proofs.fits.Goals as goal

pub loop-init : goal.loop-init
loop-init c =
    let a = c.args in
    let n : a.n ≡ a.n - 0 = omega arith in
    ap (fits a.hours.now 5) n

pub returns-then-hours-at : goal.returns-then-hours-at
returns-then-hours-at c =
    let l = c.loop in
    let a = c.args in
    elim c.then-hours-at.branch [
      | then-hours-at-via-then-hours-at w ↦ sym (l.invariant ∙ fits_missing a.hours.now l.at a.n l.counter c.loop-test.true w.if-hours-at.true)
      | then-hours-at-via-else-hours-at+then-hours-at-gt-MOST_INTERVALS w ↦
          sym (l.invariant ∙ fits-above a.hours.now l.at a.n l.counter c.loop-test.true (omega arith) w.if-hours-at-gt-MOST_INTERVALS.true)
    ]

pub loop-preserved : goal.loop-preserved
loop-preserved c =
    let l = c.loop in
    let a = c.args in
    rw c.next-at.ensures (l.invariant ∙ fits_goes a.hours.now l.at a.n l.counter c.loop-test.true (omega arith) (omega arith))

pub returns : goal.returns
returns c =
    let l = c.loop in
    let a = c.args in
    sym (l.invariant ∙ fits_done a.hours.now l.at a.n l.counter c.loop-test.false)
