-- `sections::entries` meets its contract. The loop's invariant: the entries left, from here on, leave what all of them leave. Assumes nothing.
use mathlib.Core.Path.{refl, sym, ◌∙◌}
use native.Mathlib.Omega.{arith}
use lib.ListN.{drop}
use Rattle.sections.specs.Sections.{entry_of}
use Rattle.std.proofs.lemmas.Result.{err_from_is_err_and}
use Rattle.model.proofs.Rests.{times_starts, times_goes, times_stops, times_done}
use Rattle.sections.proofs.entries.Goals as goal

pub loop-init : goal.loop-init
loop-init c =
    let a = c.args in
    (omega arith, times_starts (entry_of a.sheet.now a.letters a.fields a.section) a.n 0 (drop a.start a.sheet.now) refl)

pub returns-in_err-at-clause-result_value : goal.returns-in_err-at-clause-result_value
returns-in_err-at-clause-result_value c =
    let p = err_from_is_err_and c.from_residual.result c.from_residual.ensures.1 in
    let a = c.args in
    let l = c.loop in
    rw (p.1, p.2) (sym (l.invariant.1 ∙ times_stops (entry_of a.sheet.now a.letters a.fields a.section) a.n l.counter (drop l.at a.sheet.now) c.loop-test.true (sym c.in_err-at.ensures.result_value)))

pub loop-preserved : goal.loop-preserved
loop-preserved c =
    let a = c.args in
    let l = c.loop in
    (c.in_ok-at.ensures.within, l.invariant.1 ∙ times_goes (entry_of a.sheet.now a.letters a.fields a.section) a.n l.counter (drop l.at a.sheet.now) c.loop-test.true (drop c.in_ok-at.at a.sheet.now) (sym c.in_ok-at.ensures.result_value))

pub returns : goal.returns
returns c =
    let a = c.args in
    let l = c.loop in
    record { result_value = sym (l.invariant.1 ∙ times_done (entry_of a.sheet.now a.letters a.fields a.section) a.n l.counter (drop l.at a.sheet.now) (omega arith)); within = l.invariant.0 }
