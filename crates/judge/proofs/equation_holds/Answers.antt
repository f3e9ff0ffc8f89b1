-- `judge::equation_holds` meets its contract: nothing is left over of the two words. Assumes nothing.
use mathlib.Core.Path.{sym, ap, ◌∙◌}
use lib.Dec.{eqb}
use Rattle.model.specs.Sheet.{sheet_of, equation}
use Rattle.model.specs.Word.{spell, equation_holds}
use Rattle.model.proofs.Mismatches.{same_by_rest}
use Rattle.fields.specs.Memory.{meaning}
use Rattle.judge.proofs.equation_holds.Goals as goal

pub returns : goal.returns
unfolding equation_holds
returns c =
    let a = c.args in
    let s = sheet_of a.sheet.now in
    let g = meaning a.sheet.now a.g in
    ap (λ n. eqb n 0) c.compare_sides.ensures.left_over ∙ sym (same_by_rest s (spell g (equation s a.p).left) (spell g (equation s a.p).right))
