-- `bounds::by_row` meets its contract: field by field. Assumes nothing.
use mathlib.Core.Path.{sym}
use native.Mathlib.Omega.{arith}
use lib.Dec.{eqb}
use lib.Arith.{lt_of_le-ne}
use Rattle.std.proofs.lemmas.List.{length-set, get_or-set_same, get_or-set_other}
use borrow.Author.Tests.{eqb-true, eqb-false}
use Rattle.model.proofs.Lists.{by_test}
use Rattle.bounds.proofs.Narrowing.{row_hopeless, row_by_fields}
use Rattle.bounds.proofs.by_row.Goals as goal

pub returns-in_err-slack : goal.returns-in_err-slack
returns-in_err-slack c =
    let a = c.args in
    rw c.from_residual.ensures (row_hopeless a.rows.now a.at a.ranges.lo a.ranges.hi _ _ c.side_sum-least.ensures c.side_sum-most.ensures (omega (arith, c.in_err-slack.ensures)))

pub loop-f-preserved : goal.loop-f-preserved
loop-f-preserved c =
    let l = c.loop-f in
    let low = l.invariant.low_six in
    let high = l.invariant.high_six in
    let r = c.field_range-range.result in
    record {
      low_six = simp length-set low;
      high_six = simp length-set high;
      before = λ f less. by_test (eqb f l.f)
          (λ e.
          let here = eqb-true f l.f e in
          rw (here, get_or-set_same l.lo l.f r.lo 0 (omega arith), get_or-set_same l.hi l.f r.hi 0 (omega arith)) c.field_range-range.ensures)
          (λ e.
          let other = eqb-false f l.f e in
          rw (get_or-set_other l.lo l.f f r.lo 0 other, get_or-set_other l.hi l.f f r.hi 0 other) (l.invariant.before f (lt_of_le-ne (omega arith) other)));
    }

pub returns : goal.returns
returns c =
    let a = c.args in
    let told = c.in_ok-slack.ensures in
    row_by_fields a.rows.now a.at a.ranges.lo a.ranges.hi _ _ c.side_sum-least.ensures c.side_sum-most.ensures c.requires.1 (omega arith) _ _
    (λ f k. rw (sym told.1) (c.loop-f.invariant.before f (omega arith)))
