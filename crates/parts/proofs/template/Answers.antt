-- `parts::template` meets its contract: the two templates stand after the equation's two counts. Assumes nothing.
use mathlib.Core.Path.{◌≡◌, refl, ap, ◌∙◌}
use mathlib.Core.List.{List, map, ◌++◌}
use Prim.Native.Nat.{ℕ, ◌+◌, ◌<◌}
use native.Mathlib.Omega.{arith}
use lib.ListN.{length, length-map, take, drop}
use borrow.Author.Tests.{eq-eqb, ne_eqb}
use Rattle.model.specs.Lists.{each, Holds}
use Rattle.model.specs.Sheet.{symbol_byte, sheet_of, encode_equation, encode_constraint, equation}
use Rattle.model.proofs.Places.{EquationAt, this_equation, holds-take}
use Rattle.scan.proofs.Words.{part-is}
use Rattle.parts.proofs.template.Goals as goal

-- the equation at the offset
this : (b : List ℕ) (p at : ℕ) → p < length (sheet_of b).equations → Holds b at (each (drop p (sheet_of b).equations) encode_equation ++ each (sheet_of b).constraints encode_constraint) → EquationAt b at (equation (sheet_of b) p)
this b p at less holds = this_equation b at p (sheet_of b).equations (each (sheet_of b).constraints encode_constraint) less holds

pub bounds-sheet-at : goal.bounds-sheet-at
bounds-sheet-at c = omega (arith, (this c.args.sheet.now c.args.p c.entry_at-at.result c.requires.1 c.entry_at-at.ensures))

pub bounds-sheet-at-2 : goal.bounds-sheet-at-2
bounds-sheet-at-2 c = omega (arith, (this c.args.sheet.now c.args.p c.entry_at-at.result c.requires.1 c.entry_at-at.ensures))

pub slice_bounds-result-end : goal.slice_bounds-result-end
slice_bounds-result-end c = omega (arith, (this c.args.sheet.now c.args.p c.entry_at-at.result c.requires.1 c.entry_at-at.ensures), c.from-left.ensures)

pub slice_bounds-result-end-else-side-eq0 : goal.slice_bounds-result-end-else-side-eq0
slice_bounds-result-end-else-side-eq0 c = omega (arith, (this c.args.sheet.now c.args.p c.entry_at-at.result c.requires.1 c.entry_at-at.ensures), c.from-left.ensures, c.from-right.ensures)

pub returns-then-side-eq0 : goal.returns-then-side-eq0
returns-then-side-eq0 c =
    let a = c.args in
    let t = this c.args.sheet.now c.args.p c.entry_at-at.result c.requires.1 c.entry_at-at.ensures in
    let left = (equation (sheet_of a.sheet.now) a.p).left in
    let at = c.entry_at-at.result in
    let size : c.from-left.result ≡ length (map symbol_byte left) = omega (arith, c.from-left.ensures, t.left_count, length-map left symbol_byte) in
    rw (eq-eqb a.side 0 c.if-side-eq0.true)
    (part-is a.sheet.now (at + 2) c.from-left.result (at + 2 + c.from-left.result) refl
    ∙ ap (λ n. take n (drop (at + 2) a.sheet.now)) size ∙ holds-take (map symbol_byte left) t.holds_left)

pub returns-else-side-eq0 : goal.returns-else-side-eq0
returns-else-side-eq0 c =
    let a = c.args in
    let t = this c.args.sheet.now c.args.p c.entry_at-at.result c.requires.1 c.entry_at-at.ensures in
    let e = equation (sheet_of a.sheet.now) a.p in
    let at = c.entry_at-at.result in
    let size : c.from-right.result ≡ length (map symbol_byte e.right) = omega (arith, c.from-right.ensures, t.right_count, length-map e.right symbol_byte) in
    let from : at + 2 + c.from-left.result ≡ at + 2 + length e.left = omega (arith, c.from-left.ensures, t.left_count) in
    rw (ne_eqb a.side 0 c.if-side-eq0.false)
    (part-is a.sheet.now (at + 2 + c.from-left.result) c.from-right.result (at + 2 + c.from-left.result + c.from-right.result) refl
    ∙ ap (λ n. take n (drop (at + 2 + c.from-left.result) a.sheet.now)) size
    ∙ ap (λ k. take (length (map symbol_byte e.right)) (drop k a.sheet.now)) from
    ∙ holds-take (map symbol_byte e.right) t.holds_right)
