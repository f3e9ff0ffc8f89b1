-- `literals::sum_with` meets its contract. Assumes nothing.
use mathlib.Core.Path.{◌≡◌, ap, ◌∙◌}
use Prim.Native.Nat.{suc, ◌≤◌}
use native.Mathlib.Omega.{arith}
use lib.IntN.{pos, nat_abs, ◌+ℤ◌, ◌*ℤ◌}
use mir.Syntax.{w16}
use mir.Val.{to_z, of_z}
use Rattle.model.specs.Sheet.{sheet_of, constraint, coefficient}
use Rattle.formula.proofs.Small.{limit-small, coefficient_few}
use Rattle.formula.proofs.Integers.{sum_next}
use Rattle.scan.proofs.Machine.{small-fits, small_back}
use Rattle.scan.proofs.Terms.{product_fits, product_back}
use Rattle.numbering.proofs.Laws.{sum_fits, sum_back}
use Rattle.literals.proofs.sum_with.Goals as goal
use Rattle.literals.proofs.sum_with.Lts as lts
use Rattle.literals.proofs.sum_with.Reads as reads
use Rattle.literals.proofs.sum_with.Tie as tie

small : (c : lts.After-coefficient tie.the-claims reads.Pre reads.Post) → nat_abs c.coefficient.result ≤ 4
small c =
    let s = sheet_of c.args.sheet.now in
    rw c.coefficient.ensures (coefficient_few s c.requires.0.1 c.args.r c.requires.1.0 c.args.k)

pub overflow_cast-result : goal.overflow_cast-result
overflow_cast-result c =
    let s = sheet_of c.args.sheet.now in
    small-fits w16 (pos c.args.d) (omega (arith, c.requires.1.3, limit-small s c.requires.0.1 c.args.k))

pub overflow_mul-result : goal.overflow_mul-result
overflow_mul-result c =
    rw c.from.ensures (product_fits c.coefficient.result c.args.d (small c.before.before) (omega (arith, c.requires.1.3, limit-small (sheet_of c.args.sheet.now) c.requires.0.1 c.args.k)))

-- the next sum, as the machine has it
next : (c : lts.After-from tie.the-claims reads.Pre reads.Post) →
    let a = c.before.before.args in
    to_z w16 (of_z w16 a.n) +ℤ to_z w16 (of_z w16 (to_z w16 (of_z w16 c.from.result) *ℤ to_z w16 a.d)) ≡ a.n +ℤ coefficient (constraint (sheet_of a.sheet.now) a.r) a.k *ℤ pos a.d
next c =
    let start = c.before.before in
    let a = start.args in
    let s = sheet_of a.sheet.now in
    let term = product_back c.coefficient.result a.d (small c.before) (omega (arith, start.requires.1.3, limit-small s start.requires.0.1 a.k)) ∙ ap (λ z. z *ℤ pos a.d) c.coefficient.ensures in
    rw (c.from.ensures, sum_back s start.requires.0.1 a.r a.k start.requires.1.0 (omega (arith, start.requires.1.1)) a.n start.requires.1.2, term)

after : (c : lts.After-coefficient tie.the-claims reads.Pre reads.Post) → nat_abs (c.args.n +ℤ coefficient (constraint (sheet_of c.args.sheet.now) c.args.r) c.args.k *ℤ pos c.args.d) ≤ 384
after c =
    let s = sheet_of c.args.sheet.now in
    let z = c.args.n +ℤ coefficient (constraint s c.args.r) c.args.k *ℤ pos c.args.d in
    let inside = sum_next s (constraint s c.args.r) c.args.k c.args.n c.args.d c.requires.1.2 c.requires.1.3 in
    sum_fits s c.requires.0.1 c.args.r (suc c.args.k) c.requires.1.0 (omega (arith, c.requires.1.1)) z inside

pub overflow_add-result : goal.overflow_add-result
overflow_add-result c =
    let s = sheet_of c.args.sheet.now in
    rw (next c.before) (small-fits w16 (c.args.n +ℤ coefficient (constraint s c.args.r) c.args.k *ℤ pos c.args.d) (omega (arith, after c.before.before)))

pub returns : goal.returns
returns c =
    let s = sheet_of c.args.sheet.now in
    rw (next c.before) (small_back w16 (c.args.n +ℤ coefficient (constraint s c.args.r) c.args.k *ℤ pos c.args.d) (omega (arith, after c.before.before)))
