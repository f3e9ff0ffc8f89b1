-- `parts::most` meets its contract: the two signed bytes that stand after the coefficients. Assumes nothing.
use mathlib.Core.Path.{◌≡◌, ap, ◌∙◌}
use Prim.Native.Nat.{◌+◌}
use native.Mathlib.Omega.{arith}
use lib.ListN.{length, get_or}
use Rattle.model.specs.Sheet.{sheet_of, constraint, signed16}
use Rattle.model.proofs.Places.{field-count-at, ConstraintAt, constraint_in, constraint-at}
use Rattle.scan.proofs.Words.{signed_two}
use Rattle.parts.proofs.Known.{lent_bytes, header-there}
use Rattle.parts.proofs.most.Goals as goal
use Rattle.parts.proofs.most.Lts as lts
use Rattle.parts.proofs.most.Reads as reads
use Rattle.parts.proofs.most.Tie as tie

pub bounds-sheet-6 : goal.bounds-sheet-6
bounds-sheet-6 c =
    omega (arith, header-there c.args.sheet.now c.shared_slice_known-1.given c.requires.0)

-- the byte that was read is the field count
fields : (c : lts.After-from tie.the-claims reads.Pre reads.Post) → c.from-fields.result ≡ length (sheet_of c.args.sheet.now).limits
fields c =
    let b = c.args.sheet.now in
    c.from-fields.ensures ∙ field-count-at b (lent_bytes b c.shared_slice_known-1.given) c.requires.0

-- the constraint at the offset
there : (c : lts.After-constraint_at tie.the-claims reads.Pre reads.Post) →
    let at-start = c.before.before.before.before in
    ConstraintAt (length (sheet_of at-start.args.sheet.now).limits) at-start.args.sheet.now c.constraint_at.result (constraint (sheet_of at-start.args.sheet.now) at-start.args.r)
there c =
    let at-start = c.before.before.before.before in
    let b = at-start.args.sheet.now in
    let s = sheet_of b in
    constraint-at (length s.limits) b c.constraint_at.result (constraint s at-start.args.r) (constraint_in b (lent_bytes b c.shared_slice_known-1.given) at-start.requires.0 at-start.args.r at-start.requires.1) c.constraint_at.ensures

pub overflow_add-at : goal.overflow_add-at
overflow_add-at c = omega (arith, there c.before, fields c.before.before)

pub bounds-sheet-at : goal.bounds-sheet-at
bounds-sheet-at c = omega (arith, there c.before.before, fields c.before.before.before)

pub overflow_add-at-2 : goal.overflow_add-at-2
overflow_add-at-2 c = omega (arith, there c.before.before, fields c.before.before.before)

pub bounds-sheet-at-2 : goal.bounds-sheet-at-2
bounds-sheet-at-2 c = omega (arith, there c.before.before.before, fields c.before.before.before.before)

pub returns : goal.returns
returns c =
    let b = c.args.sheet.now in
    let first = c.constraint_at.result in
    let k = first + c.from-fields.result in
    let bytes = c.shared_slice_known-4-1.given in
    rw c.from_be_bytes.ensures
    (signed_two (get_or b k 0) (get_or b (k + 1) 0) (omega (arith, bytes k)) (omega (arith, bytes (k + 1)))
    ∙ ap (λ m. signed16 (get_or b (first + m) 0) (get_or b (first + m + 1) 0)) (fields c.before.before.before.before.before)
    ∙ (there c.before.before.before.before).most_at)
