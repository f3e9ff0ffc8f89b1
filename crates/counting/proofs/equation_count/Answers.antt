-- `counting::equation_count` meets its contract. The loop's invariant: the sum is one more than the total of the first i rows. Assumes nothing.
use mathlib.Core.Path.{◌≡◌, sym, ap, ◌∙◌}
use Prim.Native.Nat.{suc, ◌+◌}
use native.Mathlib.Omega.{arith}
use lib.ListN.{length}
use Rattle.model.specs.Lists.{total}
use Rattle.model.specs.Sheet.{sheet_of}
use Rattle.formula.specs.Clause.{left_cells}
use Rattle.formula.specs.Count.{row_count}
use Rattle.model.proofs.Keeping.{total-more, total-none}
use Rattle.counting.proofs.Laws.{survey_few, row-found, equation-known}
use Rattle.counting.proofs.equation_count.Goals as goal

pub loop-i-init : goal.loop-i-init
loop-i-init c =
    (omega (arith, total-none (row_count (sheet_of c.args.sheet.now) c.args.p)), omega arith)

pub row_count-sum-requires : goal.row_count-sum-requires
row_count-sum-requires c =
    let at-survey = c.before.before.before in
    let at-letters = at-survey.before.before.before in
    (omega (arith, at-letters.letters-letters.ensures, at-letters.requires.0.1.counts_in.of_letters), survey_few (sheet_of at-letters.args.sheet.now) at-letters.requires.0.1 at-letters.args.p at-letters.requires.1 at-survey.survey-right.result at-survey.survey-right.ensures)

pub loop-i-preserved : goal.loop-i-preserved
loop-i-preserved c =
    let l = c.loop-i in
    let at-survey = c.before.before.before.before in
    let at_Side = at-survey.before in
    let at_width = at_Side.before in
    let at-letters = at_width.before in
    let s = sheet_of at-letters.args.sheet.now in
    let more = total-more l.i (row_count s at-letters.args.p) in
    let this = c.row_count-sum.ensures.0 ∙ row-found s at-letters.requires.0.1 at-letters.args.p at-letters.requires.1 at-survey.survey-right.result at-survey.survey-right.ensures at-letters.letters-letters.result at_Side.side-left.result at-letters.letters-letters.ensures at_Side.side-left.ensures l.i (omega (arith, at_width.width-m.ensures)) in
    (omega (arith, l.invariant), omega (arith, l.invariant, c.row_count-sum.ensures))

pub returns : goal.returns
returns c =
    let at_width = c.before.before.before.before.before in
    let a = at_width.args in
    let l = c.loop-i in
    let s = sheet_of a.sheet.now in
    let e : l.i ≡ suc (length (left_cells s a.p)) = omega (arith, l.invariant, at_width.width-m.ensures) in
    (l.invariant.0 ∙ ap (λ k. 1 + total k (row_count s a.p)) e ∙ sym (equation-known s a.p), omega (arith, l.invariant, at_width.width-m.ensures))
