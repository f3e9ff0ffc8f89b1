-- `locating::in_equation` meets its contract. The loop's invariant: rest is the number among the clauses of the rows from i on. Assumes nothing.
use mathlib.Core.Path.{◌≡◌, ap, subst, ◌∙◌}
use Prim.Native.Nat.{suc, ◌-◌, ◌<◌}
use native.Mathlib.Omega.{arith}
use lib.ListN.{length, get_or}
use Rattle.model.specs.Sheet.{sheet_of}
use Rattle.formula.specs.Clause.{left_cells}
use Rattle.formula.specs.Count.{row_count}
use Rattle.formula.proofs.Small.{letters-few}
use Rattle.counting.proofs.Laws.{survey_few, row-found, equation-known}
use Rattle.locating.proofs.Laws.{at_first, at_next, never_past, start-found}
use Rattle.locating.proofs.in_equation.Goals as goal
use Rattle.locating.proofs.in_equation.Lts as lts
use Rattle.locating.proofs.in_equation.Reads as reads
use Rattle.locating.proofs.in_equation.Tie as tie

pub returns-then-n-eq0 : goal.returns-then-n-eq0
returns-then-n-eq0 c =
    let s = sheet_of c.args.sheet.now in
    start-found s c.requires.0.1 c.args.p c.requires.1 c.args.n c.if-n-eq0.true

pub loop-i-init : goal.loop-i-init
loop-i-init c =
    let s = sheet_of c.args.sheet.now in
    at_first (row_count s c.args.p) (c.args.n - 1)

pub row_count-size-requires : goal.row_count-size-requires
row_count-size-requires c =
    let at-letters = c.letters-letters in
    let at-survey = c.survey-census in
    let s = sheet_of c.args.sheet.now in
    (omega (arith, at-letters.ensures, letters-few s c.requires.0.1), survey_few s c.requires.0.1 c.args.p c.requires.1 at-survey.result at-survey.ensures)

-- how many clauses the row has
the_size : (c : lts.After-row_count tie.the-claims reads.Pre reads.Post goal.the-invariant-loop-i goal.the-decreases-loop-i) →
    let at-start = c.before.before.before.before.before.before.before.before.before.before in
    c.row_count-size.result ≡ row_count (sheet_of at-start.args.sheet.now) at-start.args.p c.loop-i.i
the_size c =
    let at-start = c.before.before.before.before.before.before.before.before.before.before in
    let at-loop = c.loop-i in
    let at_width = c.width-m in
    let at-letters = c.letters-letters in
    let at-survey = c.survey-census in
    let at_Side = c.side-left in
    let s = sheet_of at-start.args.sheet.now in
    c.row_count-size.ensures.0 ∙ row-found s at-start.requires.0.1 at-start.args.p at-start.requires.1 at-survey.result at-survey.ensures at-letters.result at_Side.result at-letters.ensures at_Side.ensures at-loop.i (omega (arith, at_width.ensures))

pub in_row-requires : goal.in_row-requires
in_row-requires c =
    let at_width = c.width-m in
    let at-loop = c.loop-i in
    let at_Side = c.side-left in
    let at-side2 = c.side-right in
    (c.requires.0, c.requires.1, omega (arith, at_width.ensures), ap (λ b. get_or b at-loop.i 0) at_Side.ensures, at-side2.ensures, subst (λ n. at-loop.rest < n) (the_size c.before.before) c.if-rest-size.true)

pub loop-i-preserved : goal.loop-i-preserved
loop-i-preserved c =
    let at-loop = c.loop-i in
    let s = sheet_of c.args.sheet.now in
    at_next (row_count s c.args.p) (c.args.n - 1) at-loop.i at-loop.rest c.row_count-size.result at-loop.invariant (the_size c.before.before) c.if-rest-size.false

pub returns : goal.returns
returns c =
    let at-if1 = c.if-n-eq0 in
    let at_width = c.width-m in
    let s = sheet_of c.args.sheet.now in
    let e = equation-known s c.args.p in
    never_past (row_count s c.args.p) (c.args.n - 1) (suc (length (left_cells s c.args.p))) c.loop-i.i c.loop-i.rest (omega (arith, c.requires.2, at-if1.false)) (omega (arith, c.loop-i.invariant, at_width.ensures)) c.loop-i.invariant
