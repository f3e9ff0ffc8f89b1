-- `parts::four_counts` meets its contract: the counts are the header's last four bytes. Assumes nothing.
use native.Mathlib.Omega.{arith}
use Prim.Native.Nat.{◌≤◌}
use lib.ListN.{length}
use Rattle.model.proofs.Places.{counts_at_lem}
use Rattle.parts.proofs.Known.{lent_bytes, header-there}
use Rattle.parts.proofs.four_counts.Goals as goal
use Rattle.parts.proofs.four_counts.Lts as lts
use Rattle.parts.proofs.four_counts.Reads as reads

whole : (c : lts.After-shared_slice_known reads.Pre reads.Post) → 9 ≤ length c.args.sheet.now
whole c = header-there c.args.sheet.now c.shared_slice_known-1.given c.requires

pub bounds-sheet-5 : goal.bounds-sheet-5
bounds-sheet-5 c = omega (arith, whole c.before)

pub bounds-sheet-6 : goal.bounds-sheet-6
bounds-sheet-6 c = omega (arith, whole c.before.before)

pub bounds-sheet-7 : goal.bounds-sheet-7
bounds-sheet-7 c = omega (arith, whole c.before.before.before)

pub bounds-sheet-8 : goal.bounds-sheet-8
bounds-sheet-8 c = omega (arith, whole c.before.before.before.before)

pub returns : goal.returns
returns c =
    counts_at_lem c.args.sheet.now (lent_bytes _ c.shared_slice_known-1.given) c.requires
