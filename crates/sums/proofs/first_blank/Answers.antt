-- `sums::first_blank` meets its contract. Assumes nothing.
use mathlib.Core.Path.{◌≡◌, ap, ◌∙◌}
use Prim.Native.Nat.{◌*◌}
use native.Mathlib.Omega.{arith}
use Rattle.model.specs.Sheet.{sheet_of}
use Rattle.formula.specs.Clause.{K, blank}
use Rattle.formula.specs.Numbering.{number}
use Rattle.sums.proofs.first_blank.Goals as goal

pub returns-then-limit-eq0 : goal.returns-then-limit-eq0
returns-then-limit-eq0 c =
    let at-if1 = c.if-limit-eq0 in
    let at-limit = c.limit in
    ((λ h. absurd (omega (arith, at-if1.true, at-limit.ensures.0))), omega arith)

pub returns : goal.returns
returns c =
    let place-number = c.place_number in
    let at-letters = c.letters in
    let s = sheet_of c.args.sheet.now in
    let e : place-number.result ≡ number s (K c.args.k 0 (blank s)) = place-number.ensures.0 ∙ ap (λ l. number s (K c.args.k 0 l)) at-letters.ensures in
    ((λ h. ap (λ n. 2 * n) e), omega (arith, place-number.ensures.1))
