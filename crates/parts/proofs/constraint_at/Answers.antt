-- `parts::constraint_at` meets its contract: the constraints stand after the equations, each of one size. Assumes nothing.
use mathlib.Core.Path.{◌≡◌, subst}
use Prim.Native.Nat.{◌+◌, ◌*◌, ◌≤◌}
use native.Mathlib.Nat.{mul-le-mul}
use native.Mathlib.Omega.{arith}
use lib.ListN.{length}
use Rattle.model.specs.Lists.{each, Holds}
use Rattle.model.specs.Sheet.{sheet_of, encode_constraint, constraint}
use Rattle.model.proofs.Known.{accepted_counts, accepted_in_range}
use Rattle.model.proofs.Places.{field-count-at, equation-count-at, past-equations, this_constraint}
use Rattle.parts.proofs.Known.{lent_bytes, header-there}
use Rattle.parts.proofs.constraint_at.Goals as goal
use Rattle.parts.proofs.constraint_at.Lts as lts
use Rattle.parts.proofs.constraint_at.Reads as reads
use Rattle.parts.proofs.constraint_at.Tie as tie

pub bounds-sheet-6 : goal.bounds-sheet-6
bounds-sheet-6 c =
    omega (arith, header-there c.args.sheet.now c.shared_slice_known-1.given c.requires.0)

pub bounds-sheet-7 : goal.bounds-sheet-7
bounds-sheet-7 c =
    let at-shared-slice-known = c.shared_slice_known-1 in
    omega (arith, header-there c.args.sheet.now at-shared-slice-known.given c.requires.0)

-- the constraint stands there
there : (c : lts.After-entry_at tie.the-claims reads.Pre reads.Post) →
    let at-start = c.before.before.before.before.before.before in
    Holds at-start.args.sheet.now (c.entry_at-first.result + at-start.args.r * (c.from-fields.result + 2)) (encode_constraint (constraint (sheet_of at-start.args.sheet.now) at-start.args.r))
there c =
    let at-start = c.before.before.before.before.before.before in
    let at_from = c.from-fields in
    let at-from2 = c.from-equations in
    let b = at-start.args.sheet.now in
    let y = lent_bytes b c.shared_slice_known-1.given in
    let ok = at-start.requires.0 in
    let s = sheet_of b in
    let last : length s.equations ≤ at-from2.result = omega (arith, equation-count-at b y ok, at-from2.ensures) in
    let first = past-equations b c.entry_at-first.result at-from2.result s.equations (each s.constraints encode_constraint) last c.entry_at-first.ensures in
    let fields : length s.limits ≡ at_from.result = omega (arith, field-count-at b y ok, at_from.ensures) in
    subst (λ m. Holds b (c.entry_at-first.result + at-start.args.r * (m + 2)) (encode_constraint (constraint s at-start.args.r))) fields
    (this_constraint b (length s.limits) c.entry_at-first.result at-start.args.r s.constraints (accepted_in_range b y ok).constraints_in at-start.requires.1 first)

pub entry_at-first-requires : goal.entry_at-first-requires
entry_at-first-requires c =
    let at-shared-slice-known = c.shared_slice_known-1 in
    let b = c.args.sheet.now in
    let y = lent_bytes b at-shared-slice-known.given in
    let ok = c.requires.0 in
    let q = equation-count-at b y ok in
    (c.requires.0, omega (arith, c.from-equations.ensures))

pub overflow_mul-result : goal.overflow_mul-result
overflow_mul-result c =
    let at-shared-slice-known = c.shared_slice_known-1 in
    let at_from = c.from-fields in
    let b = c.args.sheet.now in
    let y = lent_bytes b at-shared-slice-known.given in
    let ok = c.requires.0 in
    let v = field-count-at b y ok in
    let w = at_from.ensures in
    let n = accepted_counts b ok in
    let r : c.args.r ≤ 4 = omega (arith, c.requires.1, n.of_constraints) in
    let f : at_from.result + 2 ≤ 8 = omega (arith, n.of_fields) in
    let p : c.args.r * (at_from.result + 2) ≤ 4 * 8 = mul-le-mul r f in
    omega arith

pub overflow_add-result-2 : goal.overflow_add-result-2
overflow_add-result-2 c = omega (arith, (there c.before).inside)

pub returns : goal.returns
returns c = there c.before
