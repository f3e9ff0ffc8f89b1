-- `finding::in_section` meets its contract. The loop's invariant: rest is the number among the clauses of the parts from i on. Assumes nothing.
use mathlib.Core.Path.{◌≡◌, subst}
use Prim.Native.Nat.{◌+◌, ◌<◌}
use native.Mathlib.Omega.{arith}
use Rattle.model.specs.Lists.{total}
use Rattle.model.specs.Sheet.{sheet_of}
use Rattle.formula.specs.Count.{parts, part_counts, section_start}
use Rattle.model.proofs.Keeping.{total-fits}
use Rattle.shape.specs.Name.{section_of}
use Rattle.locating.proofs.Laws.{at_first, at_next, same_number}
use Rattle.finding.proofs.in_section.Goals as goal

pub loop-i-init : goal.loop-i-init
loop-i-init c =
    let s = sheet_of c.args.sheet.now in
    at_first (part_counts s (section_of c.args.section)) c.args.n

pub returns-then-rest-clauses : goal.returns-then-rest-clauses
returns-then-rest-clauses c =
    let at-parts = c.parts-i-end in
    let at-loop = c.loop-i in
    let s = sheet_of c.args.sheet.now in
    let x = section_of c.args.section in
    let inside = subst (λ n. at-loop.rest < n) c.part_count-clauses.ensures.0 c.if-rest-clauses.true in
    let fits = total-fits (parts s x) (part_counts s x) at-loop.i at-loop.rest (omega (arith, at-parts.ensures.0, c.loop-i-test.true)) inside in
    (omega (arith, at-loop.invariant), same_number s _ (section_start s x + (total at-loop.i (part_counts s x) + at-loop.rest)) (section_start s x + c.args.n) c.in_part.ensures (omega (arith, at-loop.invariant)))

pub loop-i-preserved : goal.loop-i-preserved
loop-i-preserved c =
    let at-loop = c.loop-i in
    let s = sheet_of c.args.sheet.now in
    at_next (part_counts s (section_of c.args.section)) c.args.n at-loop.i at-loop.rest c.part_count-clauses.result at-loop.invariant c.part_count-clauses.ensures.0 c.if-rest-clauses.false

pub returns : goal.returns
returns c =
    let at-parts = c.parts-i-end in
    let s = sheet_of c.args.sheet.now in
    let x = section_of c.args.section in
    let e : c.loop-i.i ≡ parts s x = omega (arith, at-parts.ensures.0) in
    subst (λ i. total i (part_counts s x) + c.loop-i.rest ≡ c.args.n) e c.loop-i.invariant
