-- `numerals::value` meets its contract. The loop's invariant: the rest's figures decide, and the sum is what the figures before say, below a bound
-- that their number gives. Assumes nothing.
use mathlib.Core.Path.{sym}
use mathlib.Core.Logic.{⊎_elim}
use native.Mathlib.Omega.{arith}
use Rattle.numerals.proofs.Digits.{ten_most, summed_none, summed_more, valued_empty, valued_long, valued_nought, valued_below, valued_past, valued_sum}
use Rattle.numerals.proofs.value.Goals as goal
use Rattle.numerals.proofs.value.Goals.{then-n-eq0-via-then-n-eq0, then-n-eq0-via-else-n-eq0+then-n-gt9, then-n-eq0-via-else-n-eq0+else-n-gt9+then-digits-eq48}

pub returns-then-n-eq0 : goal.returns-then-n-eq0
returns-then-n-eq0 c =
    let ds = c.args.digits.now in
    elim c.then-n-eq0.branch [
      | then-n-eq0-via-then-n-eq0 w ↦ sym (valued_empty ds w.if-n-eq0.true)
      | then-n-eq0-via-else-n-eq0+then-n-gt9 w ↦ sym (valued_long ds w.if-n-gt9.true)
      | then-n-eq0-via-else-n-eq0+else-n-gt9+then-digits-eq48 w ↦ sym (valued_nought ds (omega arith) w.if-n-gt9.false w.if-digits-eq48.true)
    ]

pub loop-x-init : goal.loop-x-init
loop-x-init c = summed_none _

pub returns-then-not-is_ascii_digit : goal.returns-then-not-is_ascii_digit
returns-then-not-is_ascii_digit c =
    let ds = c.args.digits.now in
    let l = c.loop-x in
    ⊎_elim
    (λ low. sym (valued_below ds l.x-index l.sum l.invariant (omega arith) (omega arith) (omega arith) low))
    (λ past. sym (valued_past ds l.x-index l.sum l.invariant (omega arith) (omega arith) (omega arith) past))
    c.if-not-is_ascii_digit.ensures.cases

pub overflow_mul-sum : goal.overflow_mul-sum
overflow_mul-sum c =
    let b = c.loop-x.invariant.small in
    omega (arith, ten_most c.loop-x.x-index (omega arith))

pub overflow_add-sum : goal.overflow_add-sum
overflow_add-sum c =
    let b = c.loop-x.invariant.small in
    omega (arith, ten_most c.loop-x.x-index (omega arith))

pub loop-x-preserved : goal.loop-x-preserved
loop-x-preserved c =
    let k = c.if-not-is_ascii_digit.ensures.cases in
    rw c.from.ensures (summed_more c.args.digits.now c.loop-x.x-index c.loop-x.sum c.loop-x.invariant (omega arith) k.0 k.1)

pub returns : goal.returns
returns c =
    let l = c.loop-x in
    sym (valued_sum c.args.digits.now l.x-index l.sum l.invariant (omega arith) (omega arith) (omega arith) c.if-digits-eq48.false)
