-- `locating::at_location` meets its contract: the lines of specs/Count's table that are not at a fixed place. Assumes nothing.
use mathlib.Core.Path.{◌≡◌, sym, ap, subst, ◌∙◌}
use Prim.Native.Nat.{◌-◌}
use native.Mathlib.Omega.{arith}
use Rattle.formula.specs.Clause.{Match}
use Rattle.formula.specs.Kind.{at_letter, at_field, SideIn}
use Rattle.shape.specs.Bytes.{side_of}
use Rattle.kinds.specs.Name.{stands}
use Rattle.locating.proofs.Laws.{found, letter-before, letter_after, letter-any}
use Rattle.locating.proofs.at_location.Goals as goal

pub returns-in-Place-Letter-default : goal.returns-in-Place-Letter-default
returns-in-Place-Letter-default c =
    let a = c.args in
    let met = c.in-Place-Letter-default in
    let left : side_of a.u ≡ at_field = sym c.side_of.ensures ∙ ap stands met.is-0 in
    let right : side_of a.v ≡ at_letter met.b = sym c.side_of-2.ensures ∙ ap stands met.is-1 in
    found a.l a.p a.i a.j (side_of a.u) (side_of a.v) a.n c.requires.3 at_field (at_letter met.b) left right (Match a.p a.i a.j (a.n - 2)) (λ few.
    letter-before a.l a.p a.i a.j a.n met.b (omega arith) (omega (arith, c.if-n-from.true)))

pub returns-in-Place-Letter-default-2 : goal.returns-in-Place-Letter-default-2
returns-in-Place-Letter-default-2 c =
    let a = c.args in
    let met = c.in-Place-Letter-default in
    let left : side_of a.u ≡ at_field = sym c.side_of.ensures ∙ ap stands met.is-0 in
    let right : side_of a.v ≡ at_letter met.b = sym c.side_of-2.ensures ∙ ap stands met.is-1 in
    found a.l a.p a.i a.j (side_of a.u) (side_of a.v) a.n c.requires.3 at_field (at_letter met.b) left right (Match a.p a.i a.j (a.n - 1)) (λ few.
    letter_after a.l a.p a.i a.j a.n met.b (omega arith) (omega (arith, c.if-n-from.false)) (subst (SideIn a.l) right c.requires.2) few)

pub returns-in-Place-Place-default : goal.returns-in-Place-Place-default
returns-in-Place-Place-default c =
    let a = c.args in
    let met = c.in-Place-Place-default in
    let left : side_of a.u ≡ at_field = sym c.side_of.ensures ∙ ap stands met.is-0 in
    let right : side_of a.v ≡ at_field = sym c.side_of-2.ensures ∙ ap stands met.is-1 in
    found a.l a.p a.i a.j (side_of a.u) (side_of a.v) a.n c.requires.3 at_field at_field left right (Match a.p a.i a.j (a.n - 3)) (λ few.
    letter-any a.l a.p a.i a.j a.n (omega arith) few)
