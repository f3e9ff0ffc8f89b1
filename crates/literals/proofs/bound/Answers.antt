-- `literals::bound` meets its contract. Assumes nothing.
use mathlib.Core.Path.{refl, ap, ◌∙◌}
use Prim.Native.Nat.{◌+◌, ◌*◌}
use native.Mathlib.Omega.{arith}
use lib.ListN.{length}
use mir.Syntax.{w16}
use mir.Val.{to_z, of_z}
use Rattle.model.specs.Sheet.{sheet_of}
use Rattle.formula.specs.Clause.{T, terms}
use Rattle.formula.specs.Numbering.{number}
use Rattle.numbering.proofs.Laws.{sum_back}
use Rattle.codes.specs.Nine.{nine}
use Rattle.codes.proofs.Laws.{same-nine}
use Rattle.literals.proofs.bound.Goals as goal

pub returns : goal.returns
unfolding nine terms
returns c =
    let s = sheet_of c.args.sheet.now in
    let n = ap (λ k. 2 * number s (T c.args.r k (to_z w16 (of_z w16 c.args.n))) + 1) c.fields.ensures ∙ ap (λ z. 2 * number s (T c.args.r (length s.limits) z) + 1) (sum_back s c.requires.0.1 c.args.r (length s.limits) c.requires.1.0 (omega arith) c.args.n c.requires.1.1) in
    same-nine (c.sum_code-last.ensures ∙ n) refl refl refl
