-- `schedule_share::overlaps` meets its contract: the one template's intervals are asked by number, each against all of the other. Assumes nothing.
use mathlib.Core.Path.{◌≡◌, ap₂, ◌∙◌}
use mathlib.Core.List.{List}
use Prim.Native.Nat.{ℕ, ◌+◌, ◌*◌}
use native.Mathlib.Omega.{arith}
use Rattle.std.proofs.Common.{rules, tests}
use Rattle.std.proofs.lemmas.Iterator.{YieldsList-from_range}
use Rattle.std.proofs.lemmas.Iterator.Search.{any_from_yields_List}
use Rattle.model.specs.Lists.{any}
use Rattle.model.specs.Sheet.{byte}
use Rattle.schedule.specs.Shared.{overlap, overlaps}
use Rattle.schedule.specs.Offsets.{interval_at, standing, own_at}
use Rattle.schedule_share.proofs.Laws.{some-by_number}
use Rattle.schedule_share.proofs.overlaps.Goals as goal

-- with the two counts
counted : (b : List ℕ) (one other : ℕ) {m n : ℕ} → m ≡ byte b one → n ≡ byte b other
    → any (λ w. any (overlap w) (standing b (other + 1) n)) (standing b (one + 1) m) ≡ overlaps (own_at b one) (own_at b other)
unfolding overlaps
counted b one other e f = ap₂ (λ x y. any (λ w. any (overlap w) (standing b (other + 1) y)) (standing b (one + 1) x)) e f

pub returns : goal.returns
returns c =
    let a = c.args in
    let b = a.hours.now in
    let m = c.from-m.result in
    let n = c.from-n.result in
    any_from_yields_List (λ v. any (overlap (interval_at b (a.one + 1 + 4 * v))) (standing b (a.other + 1) n)) _ _ _ c.any.ensures.ran (YieldsList-from_range 0 m m (cc) (omega arith)) (λ x r q k. search (rules, tests))
    ∙ some-by_number (λ w. any (overlap w) (standing b (a.other + 1) n)) b (a.one + 1) 0 (a.one + 1) m (omega arith)
    ∙ counted b a.one a.other c.from-m.ensures c.from-n.ensures
