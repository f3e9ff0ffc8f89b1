-- `sections::width_of` meets its contract. The loop's invariant: the total and the width of the symbols left are the width; no symbol has over 255 cells. Assumes nothing.
use native.Mathlib.Omega.{arith}
use Rattle.model.proofs.Widths.{width_turn, width_done}
use Rattle.sections.proofs.width_of.Goals as goal

pub loop-x-preserved : goal.loop-x-preserved
loop-x-preserved c =
    let w = width_turn c.args.limits.now c.args.symbols.now c.loop-x.x-index (omega arith) in
    (omega arith, omega arith)

pub returns : goal.returns
returns c =
    let w = width_done c.args.limits.now c.args.symbols.now c.loop-x.x-index (omega arith) in
    omega arith
