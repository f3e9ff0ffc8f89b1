-- `parts::coefficient` meets its contract: the signed byte that stands there. Assumes nothing.
use mathlib.Core.Path.{◌∙◌}
use Prim.Native.Nat.{◌+◌}
use native.Mathlib.Omega.{arith}
use lib.ListN.{length, get_or}
use Rattle.model.specs.Sheet.{sheet_of, constraint}
use Rattle.model.proofs.Places.{ConstraintAt, constraint_in, constraint-at}
use Rattle.scan.proofs.Words.{signed_one}
use Rattle.parts.proofs.Known.{lent_bytes}
use Rattle.parts.proofs.coefficient.Goals as goal
use Rattle.parts.proofs.coefficient.Lts as lts
use Rattle.parts.proofs.coefficient.Reads as reads
use Rattle.parts.proofs.coefficient.Tie as tie

-- the constraint at the offset
there : (c : lts.After-constraint_at tie.the-claims reads.Pre reads.Post) → ConstraintAt (length (sheet_of c.args.sheet.now).limits) c.args.sheet.now c.constraint_at-at.result (constraint (sheet_of c.args.sheet.now) c.args.r)
there c =
    let b = c.args.sheet.now in
    let s = sheet_of b in
    constraint-at (length s.limits) b c.constraint_at-at.result (constraint s c.args.r) (constraint_in b (lent_bytes b c.shared_slice_known-1.given) c.requires.0 c.args.r c.requires.1) c.constraint_at-at.ensures

pub overflow_add-at : goal.overflow_add-at
overflow_add-at c = omega (arith, there c.before, c.requires.2)

pub bounds-sheet-at : goal.bounds-sheet-at
bounds-sheet-at c = omega (arith, there c.before.before, c.requires.2)

pub returns : goal.returns
returns c =
    let k = c.constraint_at-at.result + c.args.f in
    rw c.cast_signed.ensures
    (signed_one (get_or c.args.sheet.now k 0) (omega (arith, c.shared_slice_known-2-1.given k))
    ∙ (there c.before.before.before).coefficient_at c.args.f c.requires.2)
