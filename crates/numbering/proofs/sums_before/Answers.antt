-- `numbering::sums_before` meets its contract. The loop's invariant: the sum over the first i. Assumes nothing.
use mathlib.Core.Path.{◌≡◌, refl, ap, ◌∙◌}
use Prim.Native.Nat.{◌+◌}
use native.Mathlib.Omega.{arith}
use Rattle.model.specs.Lists.{total}
use Rattle.model.specs.Sheet.{sheet_of}
use Rattle.formula.specs.Numbering.{row_size}
use Rattle.model.proofs.Keeping.{total-more}
use Rattle.formula.proofs.Small.{rows_part}
use Rattle.numbering.proofs.sums_before.Goals as goal
use Rattle.numbering.proofs.sums_before.Lts as lts
use Rattle.numbering.proofs.sums_before.Reads as reads
use Rattle.numbering.proofs.sums_before.Tie as tie

pub loop-i-init : goal.loop-i-init
unfolding total
loop-i-init c = refl

-- the next sum
next : (c : lts.After-spread tie.the-claims reads.Pre reads.Post goal.the-invariant-loop-i goal.the-decreases-loop-i) →
    let at-start = c.before.before.before.before in
    c.loop-i.sum + c.spread.result + 1 ≡ total (c.loop-i.i + 1) (row_size (sheet_of at-start.args.sheet.now) at-start.args.r)
next c =
    let at-start = c.before.before.before.before in
    let at-loop = c.loop-i in
    let s = sheet_of at-start.args.sheet.now in
    let t = total-more at-loop.i (row_size s at-start.args.r) in
    omega (arith, at-loop.invariant, c.spread.ensures.0)

pub overflow_add-sum : goal.overflow_add-sum
overflow_add-sum c =
    let at-loop = c.loop-i in
    let s = sheet_of c.args.sheet.now in
    omega (arith, next c.before, rows_part s c.requires.0.1 c.args.r (at-loop.i + 1) c.requires.1 (omega (arith, c.requires.2)))

pub overflow_add-sum-in-loop-i : goal.overflow_add-sum-in-loop-i
overflow_add-sum-in-loop-i c =
    let at-loop = c.loop-i in
    let s = sheet_of c.args.sheet.now in
    omega (arith, next c.before, rows_part s c.requires.0.1 c.args.r (at-loop.i + 1) c.requires.1 (omega (arith, c.requires.2)))

pub loop-i-preserved : goal.loop-i-preserved
loop-i-preserved c = let e = next c.before in omega arith

pub returns : goal.returns
returns c =
    let s = sheet_of c.args.sheet.now in
    let e : c.loop-i.i ≡ c.args.k = omega arith in
    let n = rows_part s c.requires.0.1 c.args.r c.loop-i.i c.requires.1 (omega (arith, c.requires)) in
    (c.loop-i.invariant ∙ ap (λ k. total k (row_size s c.args.r)) e, omega (arith, c.loop-i.invariant))
