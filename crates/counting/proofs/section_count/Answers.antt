-- `counting::section_count` meets its contract. The loop's invariant: the sum over the first i parts. Assumes nothing.
use mathlib.Core.Path.{refl, sym}
use native.Mathlib.Omega.{arith}
use Rattle.model.specs.Lists.{total}
use Rattle.model.specs.Sheet.{sheet_of}
use Rattle.formula.specs.Count.{part_counts}
use Rattle.model.proofs.Keeping.{total-more}
use Rattle.shape.specs.Name.{section_of}
use Rattle.counting.proofs.section_count.Goals as goal

pub loop-i-init : goal.loop-i-init
unfolding total
loop-i-init c = (refl, omega arith)

pub loop-i-preserved : goal.loop-i-preserved
loop-i-preserved c =
    let at-loop = c.loop-i in
    let s = sheet_of c.args.sheet.now in
    let more = total-more at-loop.i (part_counts s (section_of c.args.section)) in
    (rw (at-loop.invariant.0, c.part_count-sum.ensures.0) (sym more), omega (arith, at-loop.invariant, c.part_count-sum.ensures.1))
