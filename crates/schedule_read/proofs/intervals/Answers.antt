-- `schedule_read::intervals` meets its contract. The loop's invariant: the intervals that are left, from here on, are answered as all of them. Assumes nothing.
use mathlib.Core.Path.{◌≡◌, sym, ap, ap₂, ◌∙◌}
use Prim.Native.Nat.{◌+◌, ◌-◌, ◌*◌}
use native.Mathlib.Omega.{arith}
use Rattle.std.proofs.Common.{rules}
use Rattle.model.specs.Sheet.{byte}
use Rattle.schedule.specs.Schedule.{Reading, tested}
use Rattle.schedule.specs.Offsets.{interval_at, standing, own_at}
use Rattle.schedule.proofs.Turns.{intervals_done, interval_tested}
use Rattle.schedule_read.specs.Answer.{outcome}
use Rattle.schedule_read.proofs.intervals.Goals.{After-interval}
use Rattle.schedule_read.proofs.intervals.Goals as goal

pub loop-w-init : goal.loop-w-init
loop-w-init c go =
    let s = c.args in
    let n : byte s.hours.now s.at ≡ c.from-n.result - 0 = omega (arith, c.from-n.ensures) in
    let k : s.at + 1 ≡ s.at + 1 + 4 * 0 = omega arith in
    ap₂ (λ x m. tested 0 (standing s.hours.now x m) go) k n

-- how reading goes on after an interval, and that what its tests come to is what all come to
abbrev onward : After-interval → Reading → Reading
onward c go =
    let l = c.loop-w in
    let b = c.args.hours.now in
    let k = c.args.at + 1 + 4 * l.w in
    tested (interval_at b k).end (standing b (k + 4) (c.from-n.result - (l.w + 1))) go

turned : (c : After-interval) (go : Reading) → tested 0 (own_at c.args.hours.now c.args.at) go ≡ outcome c.interval.result (onward c go)
turned c go =
    let l = c.loop-w in
    let b = c.args.hours.now in
    l.invariant go ∙ interval_tested b l.least (c.args.at + 1 + 4 * l.w) c.from-n.result l.w go c.loop-w-test.true ∙ c.interval.ensures (onward c go)

pub returns-in_err-interval : goal.returns-in_err-interval
returns-in_err-interval c go =
    let t = (goal.at.returns-in_err-interval c).After-interval in
    let e : c.interval.result ≡ c.from_residual.result = search rules in
    turned t go ∙ ap (λ r. outcome r (onward t go)) c.in_err-interval.was ∙ ap (λ r. outcome r go) (sym c.in_err-interval.was ∙ e)

pub loop-w-preserved : goal.loop-w-preserved
loop-w-preserved c go =
    let t = (goal.at.loop-w-preserved c).After-interval in
    let l = c.loop-w in
    let b = c.args.hours.now in
    let k : c.args.at + 1 + 4 * l.w + 4 ≡ c.args.at + 1 + 4 * (l.w + 1) = omega arith in
    turned t go
    ∙ ap (λ r. outcome r (onward t go)) c.in_ok-interval.was
    ∙ ap₂ (λ m x. tested m (standing b x (c.from-n.result - (l.w + 1))) go) (sym c.minute-least.ensures) k

pub returns : goal.returns
returns c go =
    let l = c.loop-w in
    let s = c.args in
    l.invariant go ∙ intervals_done s.hours.now l.least (s.at + 1 + 4 * l.w) c.from-n.result l.w go c.loop-w-test.false
