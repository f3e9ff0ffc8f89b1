-- `numbering::parts_before` meets its contract. The loop's invariant: the sum over the first i parts. Assumes nothing.
use mathlib.Core.Path.{◌≡◌, refl, sym, ap, ◌∙◌}
use Prim.Native.Nat.{◌+◌}
use native.Mathlib.Omega.{arith}
use Rattle.model.specs.Lists.{total}
use Rattle.model.specs.Sheet.{sheet_of}
use Rattle.formula.specs.Count.{variable_counts}
use Rattle.model.proofs.Keeping.{total-more}
use Rattle.formula.proofs.Small.{variables_part}
use Rattle.shape.specs.Name.{section_of}
use Rattle.numbering.proofs.parts_before.Goals as goal
use Rattle.numbering.proofs.parts_before.Lts as lts
use Rattle.numbering.proofs.parts_before.Reads as reads
use Rattle.numbering.proofs.parts_before.Tie as tie

pub loop-i-init : goal.loop-i-init
unfolding total
loop-i-init c = refl

-- the next sum
next : (c : lts.After-part_size tie.the-claims reads.Pre reads.Post goal.the-invariant-loop-i goal.the-decreases-loop-i) →
    let at-start = c.before.before.before.before in
    c.loop-i.sum + c.part_size-sum.result ≡ total (c.loop-i.i + 1) (variable_counts (sheet_of at-start.args.sheet.now) (section_of at-start.args.section))
next c =
    let at-start = c.before.before.before.before in
    let at-loop = c.loop-i in
    let s = sheet_of at-start.args.sheet.now in
    rw (at-loop.invariant, c.part_size-sum.ensures) (sym (total-more at-loop.i (variable_counts s (section_of at-start.args.section))))

pub overflow_add-sum : goal.overflow_add-sum
overflow_add-sum c =
    let at-loop = c.loop-i in
    let s = sheet_of c.args.sheet.now in
    omega (arith, next c.before, variables_part s c.requires.0.1 (section_of c.args.section) (at-loop.i + 1) (omega (arith, c.requires.1)))

pub loop-i-preserved : goal.loop-i-preserved
loop-i-preserved c = next c.before

pub returns : goal.returns
returns c =
    let s = sheet_of c.args.sheet.now in
    let e : c.loop-i.i ≡ c.args.n = omega arith in
    let n = variables_part s c.requires.0.1 (section_of c.args.section) c.loop-i.i (omega (arith, c.requires.1)) in
    (c.loop-i.invariant ∙ ap (λ k. total k (variable_counts s (section_of c.args.section))) e, omega (arith, c.loop-i.invariant))
