-- `literals::blank_tail` meets its contract. Assumes nothing.
use mathlib.Core.Path.{◌≡◌, refl, ap, ◌∙◌}
use Prim.Native.Nat.{suc, ◌+◌}
use native.Mathlib.Omega.{arith}
use Rattle.model.specs.Sheet.{sheet_of}
use Rattle.formula.specs.Clause.{K, terms, blank}
use Rattle.formula.specs.Numbering.{number}
use Rattle.formula.proofs.Small.{limit-small}
use Rattle.codes.specs.Nine.{nine}
use Rattle.codes.proofs.Laws.{same-nine}
use Rattle.literals.proofs.blank_tail.Goals as goal

pub overflow_add-c : goal.overflow_add-c
overflow_add-c c =
    omega (arith, c.requires.1.1, limit-small (sheet_of c.args.sheet.now) c.requires.0.1 c.args.f)

pub returns : goal.returns
unfolding nine terms
returns c =
    let at-letters = c.letters-letters in
    let s = sheet_of c.args.sheet.now in
    let a = c.args in
    let e : a.c + 1 ≡ suc a.c = omega arith in
    let x = ap (λ l. number s (K a.f a.c l)) at-letters.ensures in
    let y = ap (λ l. number s (K a.f (a.c + 1) l)) at-letters.ensures ∙ ap (λ c. number s (K a.f c (blank s))) e in
    same-nine (omega (arith, c.place_code-here.ensures)) (omega (arith, c.place_code-next.ensures)) refl refl
