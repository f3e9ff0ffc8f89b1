-- `schedule_share::share` meets its contract: what stands at the two offsets are the templates' intervals, and their ends decide. Assumes nothing.
use mathlib.Core.Path.{sym, ap₂, ◌∙◌}
use Rattle.schedule.specs.Schedule.{schedule_of}
use Rattle.schedule.specs.Shared.{overlaps}
use Rattle.schedule.specs.Offsets.{own_at}
use Rattle.schedule.proofs.Overlapping.{overlaps_decides}
use Rattle.schedule.proofs.Turns.{admitted-at, admitted-inside}
use Rattle.schedule_share.proofs.share.Goals as goal

pub overlaps-requires : goal.overlaps-requires
overlaps-requires c =
    let a = c.args in
    let i = admitted-inside a.n a.hours.now c.requires.0 a.i c.requires.1 in
    let j = admitted-inside a.n a.hours.now c.requires.0 a.j c.requires.2 in
    rw (c.start.ensures, c.start-2.ensures) (i.0, i.2, j.0, j.2)

pub returns : goal.returns
returns c =
    let a = c.args in
    let b = a.hours.now in
    c.overlaps.ensures
    ∙ ap₂ (λ v w. overlaps (own_at b v) (own_at b w)) c.start.ensures c.start-2.ensures
    ∙ sym (ap₂ overlaps (admitted-at a.n b c.requires.0 a.i c.requires.1) (admitted-at a.n b c.requires.0 a.j c.requires.2))
    ∙ overlaps_decides a.n (schedule_of a.n b) c.requires.0.1 a.i a.j c.requires.1 c.requires.2
