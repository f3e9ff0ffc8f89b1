-- `inequalities::making::constraint_row` meets its contract: field by field. Assumes nothing.
use mathlib.Core.Path.{◌≡◌, ap, ◌∙◌}
use native.Mathlib.Omega.{arith}
use Rattle.model.specs.Sheet.{sheet_of, constraint, coefficient}
use Rattle.inequalities.specs.Rows.{constraint_row, positive, negative}
use Rattle.inequalities.proofs.Signs.{back}
use Rattle.inequalities.proofs.Steps.{written_all}
use Rattle.inequalities.proofs.making.constraint_row.Goals as goal

pub returns : goal.returns
unfolding constraint_row
returns c =
    let r = constraint (sheet_of c.args.sheet.now) c.args.r in
    let read = c.most-most in
    let limit = back read.result (record { sfits = read.type_inv }) ∙ read.ensures in
    let all : c.loop-f.f ≡ 6 = omega arith in
    rw (c.negative-2.ensures ∙ ap negative limit, c.positive-2.ensures ∙ ap positive limit)
    (written_all c.loop-f.row (λ f. positive (coefficient r f)) (λ f. negative (coefficient r f)) _ _ (rw all at c.loop-f.invariant))
