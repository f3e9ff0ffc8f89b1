-- `schedule_read::all_intervals` meets its contract. The loop's invariant: the templates that are left, from here on, fit the file and are answered as all of them.
-- Assumes nothing.
use mathlib.Core.Path.{◌≡◌, sym, ap, subst, ◌∙◌}
use mathlib.Core.Bool.{true}
use Prim.Native.Nat.{◌+◌, ◌-◌, ◌<◌, ◌≤◌}
use native.Mathlib.Omega.{arith}
use lib.ListN.{length}
use Rattle.std.proofs.Common.{rules}
use Rattle.model.specs.Sheet.{byte}
use Rattle.schedule.specs.Schedule.{Reading, all_tested}
use Rattle.schedule.specs.Offsets.{next_at, laid, fits}
use Rattle.schedule.proofs.Offsets.{fits-inside}
use Rattle.schedule.proofs.Turns.{fits_now, tested-template, tested_done}
use Rattle.schedule_read.specs.Answer.{outcome}
use Rattle.schedule_read.proofs.all_intervals.Goals.{In-loop, After-intervals}
use Rattle.schedule_read.proofs.all_intervals.Goals as goal

pub loop-init : goal.loop-init
loop-init c =
    let b = c.args.hours.now in
    let n : c.args.n ≡ c.args.n - 0 = omega arith in
    (subst (λ m. fits b 5 m ≡ true) n c.requires, λ go. ap (λ m. all_tested (laid b 5 m) go) n)

-- the template at hand is in the file
inside : (c : In-loop) →
    let b = c.args.hours.now in
    let l = c.loop in
    (l.at < length b) × (byte b l.at ≤ 4) × (fits b (next_at b l.at) (c.args.n - (l.counter + 1)) ≡ true)
inside c = let l = c.loop in fits_now c.args.hours.now l.at c.args.n l.counter c.loop-test.true l.invariant.0

pub intervals-requires : goal.intervals-requires
intervals-requires c =
    let b = c.args.hours.now in
    let l = c.loop in
    let h = inside (goal.at.intervals-requires c).In-loop in
    (h.0, fits-inside b (next_at b l.at) (c.args.n - (l.counter + 1)) h.2)

-- how reading goes on after it, and that what its tests come to is what all come to
abbrev onward : After-intervals → Reading → Reading
onward c go =
    let l = c.loop in
    let b = c.args.hours.now in
    all_tested (laid b (next_at b l.at) (c.args.n - (l.counter + 1))) go

turned : (c : After-intervals) (go : Reading) → all_tested (laid c.args.hours.now 5 c.args.n) go ≡ outcome c.intervals.result (onward c go)
turned c go =
    let l = c.loop in
    l.invariant.1 go ∙ tested-template c.args.hours.now l.at c.args.n l.counter c.loop-test.true go ∙ c.intervals.ensures (onward c go)

pub returns-in_err-intervals : goal.returns-in_err-intervals
returns-in_err-intervals c go =
    let t = (goal.at.returns-in_err-intervals c).After-intervals in
    let e : c.intervals.result ≡ c.from_residual.result = search rules in
    turned t go ∙ ap (λ r. outcome r (onward t go)) c.in_err-intervals.was ∙ ap (λ r. outcome r go) (sym c.in_err-intervals.was ∙ e)

pub next-at-requires : goal.next-at-requires
next-at-requires c = (inside (goal.at.next-at-requires c).In-loop).0

pub loop-preserved : goal.loop-preserved
loop-preserved c =
    let at = goal.at.loop-preserved c in (
      rw c.next-at.ensures (inside at.In-loop).2,
      λ go. rw c.next-at.ensures (turned at.After-intervals go ∙ ap (λ r. outcome r (onward at.After-intervals go)) c.in_ok-intervals.was),
    )

pub returns : goal.returns
returns c go =
    let l = c.loop in
    let s = c.args in
    l.invariant.1 go ∙ tested_done s.hours.now l.at s.n l.counter c.loop-test.false go
