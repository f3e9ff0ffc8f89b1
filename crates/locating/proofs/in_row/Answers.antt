-- `locating::in_row` meets its contract. The loop's invariant: rest is the number among the clauses of the locations from j on. Assumes nothing.
use mathlib.Core.Path.{◌≡◌, subst, ◌∙◌}
use Prim.Native.Nat.{suc, ◌<◌}
use native.Mathlib.Omega.{arith}
use lib.ListN.{length}
use Rattle.model.specs.Sheet.{sheet_of}
use Rattle.formula.specs.Clause.{right_cells}
use Rattle.formula.specs.Count.{location_size}
use Rattle.formula.proofs.Small.{letters-few}
use Rattle.locating.proofs.Laws.{at_first, at_next, never_past, location_known, sides-known, location_found}
use Rattle.locating.proofs.in_row.Goals as goal
use Rattle.locating.proofs.in_row.Lts as lts
use Rattle.locating.proofs.in_row.Reads as reads
use Rattle.locating.proofs.in_row.Tie as tie

pub loop-j-init : goal.loop-j-init
loop-j-init c =
    let s = sheet_of c.args.sheet.now in
    at_first (location_size s c.args.p c.args.i) c.args.n

-- how many clauses the location has
the_size : (c : lts.After-location_count tie.the-claims reads.Pre reads.Post goal.the-invariant-loop-j goal.the-decreases-loop-j) →
    let at-start = c.before.before.before.before.before.before in
    c.location_count-size.result ≡ location_size (sheet_of at-start.args.sheet.now) at-start.args.p at-start.args.i c.loop-j.j
the_size c =
    let at-start = c.before.before.before.before.before.before in
    let at-letters = c.letters-letters in
    let at-loop = c.loop-j in
    let at_width = c.width-width in
    let s = sheet_of at-start.args.sheet.now in
    c.location_count-size.ensures ∙ location_known s at-start.requires.0.1 at-start.args.p at-start.requires.1 at-start.args.i at-start.requires.2 at-letters.result at-start.args.u at-start.args.right at-letters.ensures at-start.requires.3 at-start.requires.4 at-loop.j (omega (arith, at_width.ensures.0))

pub at_location-requires : goal.at_location-requires
at_location-requires c =
    let at-letters = c.letters-letters in
    let at-loop = c.loop-j in
    let at_width = c.width-width in
    let s = sheet_of c.args.sheet.now in
    let sides = sides-known s c.requires.0.1 c.args.p c.requires.1 c.args.i c.requires.2 at-letters.result c.args.u c.args.right at-letters.ensures c.requires.3 c.requires.4 at-loop.j (omega (arith, at_width.ensures.0)) in
    (omega (arith, at-letters.ensures, letters-few s c.requires.0.1), sides.0, sides.1, subst (λ n. at-loop.rest < n) c.location_count-size.ensures c.if-rest-size.true)

pub returns-then-rest-size : goal.returns-then-rest-size
returns-then-rest-size c =
    let at-letters = c.letters-letters in
    let at-loop = c.loop-j in
    let at_width = c.width-width in
    let s = sheet_of c.args.sheet.now in
    location_found s c.requires.0.1 c.args.p c.requires.1 c.args.i c.requires.2 at-letters.result c.args.u c.args.right at-letters.ensures c.requires.3 c.requires.4 at-loop.j (omega (arith, at_width.ensures.0)) c.args.n at-loop.rest _ at-loop.invariant (subst (λ n. at-loop.rest < n) (the_size c.before.before.before) c.if-rest-size.true) c.at_location.ensures

pub loop-j-preserved : goal.loop-j-preserved
loop-j-preserved c =
    let at-loop = c.loop-j in
    let s = sheet_of c.args.sheet.now in
    at_next (location_size s c.args.p c.args.i) c.args.n at-loop.j at-loop.rest c.location_count-size.result at-loop.invariant (the_size c.before.before) c.if-rest-size.false

pub returns : goal.returns
returns c =
    let at_width = c.width-width in
    let s = sheet_of c.args.sheet.now in
    never_past (location_size s c.args.p c.args.i) c.args.n (suc (length (right_cells s c.args.p))) c.loop-j.j c.loop-j.rest c.requires.5 (omega (arith, c.loop-j.invariant, at_width.ensures)) c.loop-j.invariant
