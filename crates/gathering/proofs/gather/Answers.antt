-- `gathering::gather` meets its contract: the equations' rows, and after them the constraints'. Assumes nothing.
use native.Mathlib.Omega.{arith}
use Rattle.model.specs.Sheet.{sheet_of}
use Rattle.gathering.proofs.Steps.{all-gathered}
use Rattle.gathering.proofs.gather.Goals as goal

pub put_constraints-requires : goal.put_constraints-requires
put_constraints-requires c =
    let first = c.put_equations-count in
    (c.requires.0, omega (arith, first.ensures.1), omega (arith, c.requires.1, first.auto.rows))

pub returns : goal.returns
returns c =
    let a = c.args in
    let first = c.put_equations-count in
    let second = c.put_constraints in
    all-gathered (sheet_of a.sheet.now) a.equations a.constraints a.rows.now first.new.rows second.new.rows first.result second.result
    c.requires.1 first.ensures.0 first.auto.rows second.ensures.0 second.auto.rows second.ensures.1
