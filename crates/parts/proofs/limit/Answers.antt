-- `parts::limit` meets its contract: the limits stand after the letters. Assumes nothing.
use mathlib.Core.Path.{◌≡◌}
use Prim.Native.Nat.{◌+◌}
use native.Mathlib.Omega.{arith}
use lib.ListN.{length}
use Rattle.model.specs.Lists.{Holds}
use Rattle.model.specs.Sheet.{sheet_of}
use Rattle.parts.proofs.Known.{lent_bytes, header-there}
use Rattle.model.proofs.Places.{letter-count-at, holds_at_lem, holds_fits, holds-from, holds_limits}
use Rattle.parts.proofs.limit.Goals as goal
use Rattle.parts.proofs.limit.Lts as lts
use Rattle.parts.proofs.limit.Reads as reads
use Rattle.parts.proofs.limit.Tie as tie

pub bounds-sheet-5 : goal.bounds-sheet-5
bounds-sheet-5 c =
    omega (arith, header-there c.args.sheet.now c.shared_slice_known-1.given c.requires.0)

-- the limits stand there
there : (c : lts.After-from tie.the-claims reads.Pre reads.Post) →
    let at-start = c.before.before.before in
    Holds at-start.args.sheet.now (9 + c.from-letters.result) (sheet_of at-start.args.sheet.now).limits
there c =
    let at-start = c.before.before.before in
    let b = at-start.args.sheet.now in
    let y = lent_bytes b c.shared_slice_known-1.given in
    let from : 9 + length (sheet_of b).letters ≡ 9 + c.from-letters.result = omega (arith, letter-count-at b y at-start.requires.0, c.from-letters.ensures) in
    holds-from from (holds_limits b y at-start.requires.0)

pub overflow_add-result-2 : goal.overflow_add-result-2
overflow_add-result-2 c = omega (arith, holds_fits _ (there c.before), c.requires.1)

pub bounds-sheet-letters : goal.bounds-sheet-letters
bounds-sheet-letters c = omega (arith, holds_fits _ (there c.before.before), c.requires.1)

pub returns : goal.returns
returns c =
    holds_at_lem (sheet_of c.args.sheet.now).limits c.args.f (there c.before.before) c.requires.1
