-- `finding::in_field` meets its contract. The loop's invariant: rest is the number among the pairs of a and the values after it. Assumes nothing.
use mathlib.Core.Path.{refl}
use Prim.Native.Nat.{◌+◌, ◌-◌, ◌%◌}
use native.Mathlib.Omega.{arith}
use Rattle.model.specs.Sheet.{sheet_of}
use Rattle.locating.proofs.Laws.{at_first, at_next}
use Rattle.finding.proofs.Laws.{some-found, not_both_found, tail_found}
use Rattle.finding.proofs.in_field.Goals as goal

pub returns-then-n-size-eq0 : goal.returns-then-n-size-eq0
returns-then-n-size-eq0 c =
    let at-letters = c.letters-letters in
    let s = sheet_of c.args.sheet.now in
    some-found s c.requires.0.1 c.args.f c.requires.1 c.args.n c.requires.2 at-letters.result c.not_both_count-size.result at-letters.ensures c.not_both_count-size.ensures.0 c.if-n-size-eq0.true

pub loop-a-init : goal.loop-a-init
loop-a-init c =
    let at-letters = c.letters-letters in
    at_first (λ a. at-letters.result - a) (c.args.n % (2 + c.not_both_count-size.result) - 1)

pub returns-then-rest-letters : goal.returns-then-rest-letters
returns-then-rest-letters c =
    let at-letters = c.letters-letters in
    let at-not-both-count = c.not_both_count-size in
    let at-if1 = c.if-n-size-eq0 in
    let at-loop = c.loop-a in
    let s = sheet_of c.args.sheet.now in
    not_both_found s c.requires.0.1 c.args.f c.requires.1 c.args.n c.requires.2 at-letters.result at-not-both-count.result at-letters.ensures at-not-both-count.ensures.0 at-if1.false at-loop.a at-loop.rest at-loop.invariant (omega arith) c.if-rest-letters.true

pub loop-a-preserved : goal.loop-a-preserved
loop-a-preserved c =
    let at-letters = c.letters-letters in
    let at-not-both-count = c.not_both_count-size in
    let at-loop = c.loop-a in
    let l = at-letters.result in
    at_next (λ a. l - a) (c.args.n % (2 + at-not-both-count.result) - 1) at-loop.a at-loop.rest (l - at-loop.a) at-loop.invariant refl c.if-rest-letters.false

pub returns : goal.returns
returns c =
    let at-letters = c.letters-letters in
    let at-not-both-count = c.not_both_count-size in
    let at-if1 = c.if-n-size-eq0 in
    let s = sheet_of c.args.sheet.now in
    tail_found s c.requires.0.1 c.args.f c.requires.1 c.args.n c.requires.2 at-letters.result at-not-both-count.result at-letters.ensures at-not-both-count.ensures.0 at-if1.false c.loop-a.a c.loop-a.rest c.loop-a.invariant (omega (arith, c.loop-a.invariant))
