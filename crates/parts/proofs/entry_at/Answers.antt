-- `parts::entry_at` meets its contract. The loop's invariant: at the offset stand the equations from i on, and then the constraints. Assumes nothing.
use mathlib.Core.Path.{◌≡◌, subst}
use mathlib.Core.List.{◌++◌}
use Prim.Native.Nat.{◌+◌, ◌<◌}
use native.Mathlib.Omega.{arith}
use lib.ListN.{length, drop}
use Rattle.model.specs.Lists.{each, Holds}
use Rattle.model.specs.Sheet.{sheet_of, encode_equation, encode_constraint, equation}
use Rattle.model.proofs.Places.{EquationAt, letter-count-at, field-count-at, holds-from, holds_entries, this_equation, next_equation}
use Rattle.parts.proofs.Known.{lent_bytes, header-there}
use Rattle.parts.proofs.entry_at.Goals as goal
use Rattle.parts.proofs.entry_at.Lts as lts
use Rattle.parts.proofs.entry_at.Reads as reads
use Rattle.parts.proofs.entry_at.Tie as tie

pub bounds-sheet-5 : goal.bounds-sheet-5
bounds-sheet-5 c =
    omega (arith, header-there c.args.sheet.now c.shared_slice_known-1.given c.requires.0)

pub bounds-sheet-6 : goal.bounds-sheet-6
bounds-sheet-6 c =
    let at-shared-slice-known = c.shared_slice_known-1 in
    omega (arith, header-there c.args.sheet.now at-shared-slice-known.given c.requires.0)

pub overflow_add-at : goal.overflow_add-at
overflow_add-at c = omega (arith)

pub overflow_add-at-2 : goal.overflow_add-at-2
overflow_add-at-2 c = omega (arith)

pub loop-init : goal.loop-init
loop-init c =
    let at-shared-slice-known = c.shared_slice_known-1 in
    let at_from = c.from-letters in
    let b = c.args.sheet.now in
    let y = lent_bytes b at-shared-slice-known.given in
    let ok = c.requires.0 in
    let p = letter-count-at b y ok in
    let q = field-count-at b y ok in
    let n : 9 + length (sheet_of b).letters + length (sheet_of b).limits ≡ 9 + at_from.result + c.from-fields.result = omega (arith, at_from.ensures, c.from-fields.ensures) in
    holds-from n (holds_entries b y ok)

-- the equation at hand, in a turn of the loop
this : (c : lts.In-loop tie.the-claims reads.Pre reads.Post goal.the-invariant-loop goal.the-decreases-loop) →
    let at-start = c.before.before.before.before.before.before.before in
    EquationAt at-start.args.sheet.now c.loop.at (equation (sheet_of at-start.args.sheet.now) c.loop.counter)
this c =
    let at-start = c.before.before.before.before.before.before.before in
    let s = sheet_of at-start.args.sheet.now in
    let more : c.loop.counter < length s.equations = omega (arith, at-start.requires.1) in
    this_equation at-start.args.sheet.now c.loop.at c.loop.counter s.equations (each s.constraints encode_constraint) more c.loop.invariant

pub bounds-sheet-at : goal.bounds-sheet-at
bounds-sheet-at c = omega (arith, this c.before.before)

pub overflow_add-at-in-loop : goal.overflow_add-at-in-loop
overflow_add-at-in-loop c = omega (arith, this c.before.before.before)

pub bounds-sheet-at-in-loop : goal.bounds-sheet-at-in-loop
bounds-sheet-at-in-loop c = omega (arith, this c.before.before.before.before)

pub overflow_add-at-in-loop-2 : goal.overflow_add-at-in-loop-2
overflow_add-at-in-loop-2 c = omega (arith, this c.before.before.before.before.before)

pub overflow_add-at-in-loop-3 : goal.overflow_add-at-in-loop-3
overflow_add-at-in-loop-3 c = omega (arith, this c.before.before.before.before.before, c.from-left.ensures, c.from-right.ensures)

pub overflow_add-at-in-loop-4 : goal.overflow_add-at-in-loop-4
overflow_add-at-in-loop-4 c = omega (arith, this c.before.before.before.before.before, c.from-left.ensures, c.from-right.ensures)

pub loop-preserved : goal.loop-preserved
loop-preserved c =
    let at-loop = c.loop in
    let b = c.args.sheet.now in
    let s = sheet_of b in
    let more : at-loop.counter < length s.equations = omega (arith, c.requires.1) in
    let e : at-loop.at + 2 + length (equation s at-loop.counter).left + length (equation s at-loop.counter).right ≡ at-loop.at + (2 + c.from-left.result + c.from-right.result) =
    omega (arith, this c.before.before.before.before.before, c.from-left.ensures, c.from-right.ensures) in
    holds-from e (next_equation b at-loop.at at-loop.counter s.equations (each s.constraints encode_constraint) more at-loop.invariant)

pub returns : goal.returns
returns c =
    let b = c.args.sheet.now in
    let l = c.loop in
    let e : l.counter ≡ c.args.p = omega arith in
    subst (λ i. Holds b l.at (each (drop i (sheet_of b).equations) encode_equation ++ each (sheet_of b).constraints encode_constraint)) e l.invariant
