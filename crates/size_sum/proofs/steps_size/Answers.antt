-- `size_sum::steps_size` meets its contract. The loop's invariant: the sum is that of the first k steps. Assumes nothing.
use mathlib.Core.Path.{◌≡◌, sym, ap, ◌∙◌}
use native.Mathlib.Omega.{arith}
use lib.ListN.{length}
use Rattle.model.specs.Lists.{each, up_to}
use Rattle.model.specs.Sheet.{sheet_of}
use Rattle.formula.specs.Clause.{fields}
use Rattle.formula.proofs.Small.{fields-few}
use Rattle.sums.specs.Lines.{step_lines}
use Rattle.model.proofs.Keeping.{length_none, length_more}
use Rattle.size_sum.proofs.steps_size.Goals as goal

pub loop-k-init : goal.loop-k-init
loop-k-init c =
    (sym (length_none (step_lines (sheet_of c.args.sheet.now) c.args.r)), omega arith)

pub loop-k-preserved : goal.loop-k-preserved
loop-k-preserved c =
    let l = c.loop-k in
    let more = length_more (step_lines (sheet_of c.args.sheet.now) c.args.r) l.k in
    (omega (arith, l.invariant.0, c.step_size-sum.ensures.0), omega (arith, l.invariant.1, c.step_size-sum.ensures.1))

pub returns : goal.returns
returns c =
    let l = c.loop-k in
    let s = sheet_of c.args.sheet.now in
    let e : l.k ≡ fields s = omega (arith, l.auto.k-end, c.fields-fields.ensures) in
    (l.invariant.0 ∙ ap (λ k. length (each (up_to k) (step_lines s c.args.r))) e, omega (arith, l.invariant, c.fields-fields.ensures, fields-few s c.requires.0.1))
