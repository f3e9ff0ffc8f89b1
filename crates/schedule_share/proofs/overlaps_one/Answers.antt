-- `schedule_share::overlaps_one` meets its contract: the intervals are asked by number. Assumes nothing.
use mathlib.Core.Path.{◌∙◌}
use Prim.Native.Nat.{◌+◌, ◌*◌}
use native.Mathlib.Omega.{arith}
use Rattle.std.proofs.Common.{rules, tests}
use Rattle.std.proofs.lemmas.Iterator.{YieldsList-from_range}
use Rattle.std.proofs.lemmas.Iterator.Search.{any_from_yields_List}
use Rattle.schedule.specs.Shared.{overlap}
use Rattle.schedule.specs.Offsets.{interval_at}
use Rattle.schedule_share.proofs.Laws.{some-by_number}
use Rattle.schedule_share.proofs.overlaps_one.Goals as goal

pub returns : goal.returns
returns c =
    let a = c.args in
    let b = a.hours.now in
    any_from_yields_List (λ w. overlap (interval_at b a.v) (interval_at b (a.at + 4 * w))) _ _ _ c.any.ensures.ran (YieldsList-from_range 0 a.n a.n (cc) (omega arith)) (λ x r q k. search (rules, tests))
    ∙ some-by_number (overlap (interval_at b a.v)) b a.at 0 a.at a.n (omega arith)
