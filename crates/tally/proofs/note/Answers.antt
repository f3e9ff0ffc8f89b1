-- `tally::note` meets its contract: past the last mark there is none to set. Assumes nothing.
use mathlib.Core.Path.{refl, ap}
use lib.ListN.{set}
use Rattle.tally.specs.Tally.{marked}
use Rattle.tally.proofs.Marks.{noted-above, noted_here, marked-above}
use Rattle.tally.proofs.note.Goals as goal

pub returns-then-n-marks : goal.returns-then-n-marks
returns-then-n-marks c =
    let a = c.args in
    let m = a.marks.now in
    let above = c.if-n-marks.true in
    (noted-above m a.tally a.n _ refl above, marked-above m a.tally a.n a.plus above)

pub returns : goal.returns
unfolding marked
returns c =
    let a = c.args in
    let m = a.marks.now in
    let here = c.if-n-marks.false in
    (noted_here m a.tally a.n _ _ refl refl here, ap (set m a.n) c.mark.ensures)
