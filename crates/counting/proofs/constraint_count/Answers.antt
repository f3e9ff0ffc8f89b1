-- `counting::constraint_count` meets its contract. Assumes nothing.
use mathlib.Core.Path.{◌≡◌, ap, ◌∙◌}
use native.Mathlib.Omega.{arith}
use lib.ListN.{length}
use Rattle.model.specs.Sheet.{sheet_of, constraint}
use Rattle.formula.specs.Clause.{spread}
use Rattle.formula.proofs.Totals.{within_le}
use Rattle.counting.proofs.Laws.{constraint-known}
use Rattle.counting.proofs.constraint_count.Goals as goal
use Rattle.counting.proofs.constraint_count.Lts as lts
use Rattle.counting.proofs.constraint_count.Reads as reads
use Rattle.counting.proofs.constraint_count.Tie as tie

-- how far the final sums spread
the-spread : (c : lts.After-spread tie.the-claims reads.Pre reads.Post) →
    let at-start = c.before.before.before in
    c.spread-sums.result ≡ spread (sheet_of at-start.args.sheet.now) (constraint (sheet_of at-start.args.sheet.now) at-start.args.r) (length (sheet_of at-start.args.sheet.now).limits)
the-spread c =
    let at-start = c.before.before.before in
    let s = sheet_of at-start.args.sheet.now in
    c.spread-sums.ensures.0 ∙ ap (spread s (constraint s at-start.args.r)) c.fields.ensures

pub overflow_sub-result : goal.overflow_sub-result
overflow_sub-result c =
    let place-spread = c.before.before.before in
    let s = sheet_of c.args.sheet.now in
    omega (arith, c.within.ensures, the-spread place-spread, within_le s (constraint s c.args.r))

pub returns : goal.returns
returns c =
    let place-spread = c.before.before.before in
    let at-spread = c.spread-sums in
    let s = sheet_of c.args.sheet.now in
    (omega (arith, c.steps_count.ensures, c.within.ensures, the-spread place-spread, constraint-known s c.args.r), omega (arith, c.steps_count.ensures, at-spread.ensures))
