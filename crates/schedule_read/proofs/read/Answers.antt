-- `schedule_read::read` meets its contract: the mark and the version, the counts, the windows. Assumes nothing.
use mathlib.Core.Path.{sym, ◌∙◌}
use Rattle.parts.proofs.Known.{lent_bytes}
use Rattle.book.proofs.Opening.{opens-long}
use Rattle.schedule.specs.Schedule.{mark}
use Rattle.schedule.proofs.Offsets.{read_shut, read_strays, read_fits}
use Rattle.schedule_read.proofs.Laws.{told_reads}
use Rattle.schedule_read.proofs.read.Goals.{then-not-opens-via-then-not-opens, then-not-opens-via-else-not-opens+then-not-fits}
use Rattle.schedule_read.proofs.read.Goals as goal

pub fits-requires : goal.fits-requires
fits-requires c = opens-long mark c.args.hours.now (sym c.if-not-opens.ensures)

pub returns-then-not-opens : goal.returns-then-not-opens
returns-then-not-opens c =
    let a = c.args in
    let b = a.hours.now in
    elim c.then-not-opens.branch [
      | then-not-opens-via-then-not-opens w ↦ read_shut b a.n (sym c.opens.ensures ∙ w.if-not-opens.true)
      | then-not-opens-via-else-not-opens+then-not-fits w ↦
          let opened = sym c.opens.ensures ∙ w.if-not-opens.false in
          read_strays b a.n opened (opens-long mark b opened) (sym w.fits.ensures ∙ w.if-not-fits.true)
    ]

pub returns : goal.returns
returns c =
    let a = c.args in
    let b = a.hours.now in
    let opened = sym c.opens.ensures ∙ c.if-not-opens.false in
    told_reads a.n b c.all_intervals.result (lent_bytes b c.type_inv.hours)
    (read_fits b a.n opened (opens-long mark b opened) (sym c.fits.ensures ∙ c.if-not-fits.false)) c.all_intervals.ensures
