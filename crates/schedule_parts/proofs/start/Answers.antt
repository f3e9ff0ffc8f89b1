-- `schedule_parts::start` meets its contract. The loop's invariant: from here on the templates that are left fit the file, and template i is as many further as are
-- left to pass. Assumes nothing.
use mathlib.Core.Path.{◌≡◌, sym, ap, subst, ◌∙◌}
use mathlib.Core.Bool.{true}
use Prim.Native.Nat.{◌+◌, ◌-◌, ◌<◌, ◌≤◌}
use native.Mathlib.Omega.{arith}
use lib.ListN.{length}
use Rattle.model.specs.Sheet.{byte}
use Rattle.schedule.specs.Schedule.{schedule_of}
use Rattle.schedule.specs.Offsets.{next_at, start_at, fits}
use Rattle.schedule.proofs.Turns.{fits_now, start_goes, start_done, accepted-fits}
use Rattle.schedule_parts.proofs.start.Goals.{In-loop}
use Rattle.schedule_parts.proofs.start.Goals as goal

pub loop-init : goal.loop-init
loop-init c =
    let b = c.args.hours.now in
    let n : c.args.n ≡ c.args.n - 0 = omega arith in
    let i : c.args.i ≡ c.args.i - 0 = omega arith in
    (subst (λ m. fits b 5 m ≡ true) n (accepted-fits c.args.n b (schedule_of c.args.n b) c.requires.0.0).0, ap (start_at b 5) i)

-- a template more, since i is one of n
left : (c : In-loop) →
    let b = c.args.hours.now in
    let l = c.loop in
    (l.at < length b) × (byte b l.at ≤ 4) × (fits b (next_at b l.at) (c.args.n - (l.counter + 1)) ≡ true)
left c =
    let l = c.loop in
    fits_now c.args.hours.now l.at c.args.n l.counter (omega (arith, c.requires.1, c.loop-test.true)) l.invariant.0

pub next-at-requires : goal.next-at-requires
next-at-requires c = (left (goal.at.next-at-requires c).In-loop).0

pub loop-preserved : goal.loop-preserved
loop-preserved c =
    let l = c.loop in
    let b = c.args.hours.now in (
      rw c.next-at.ensures (left (goal.at.loop-preserved c).In-loop).2,
      rw c.next-at.ensures (l.invariant.1 ∙ start_goes b l.at c.args.i l.counter c.loop-test.true),
    )

pub returns : goal.returns
returns c =
    let l = c.loop in
    sym (l.invariant.1 ∙ start_done c.args.hours.now l.at c.args.i l.counter c.loop-test.false)
