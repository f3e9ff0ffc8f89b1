-- `listing::ended` meets its contract. Assumes nothing.
use mathlib.Core.Path.{ap, ◌∙◌}
use mathlib.Core.Bool.{◌||◌}
use Prim.Native.Nat.{◌-◌}
use lib.Dec.{eqb}
use lib.ListN.{length, get_or}
use Rattle.calls.specs.Reply.{line_ended}
use Rattle.listing.proofs.ended.Goals as goal

pub returns-then-is_empty : goal.returns-then-is_empty
unfolding line_ended
returns-then-is_empty c =
    let t = c.args.text.now in
    c.if-is_empty.true ∙ ap (λ b. b || eqb (get_or t (length t - 1) 0) 10) c.if-is_empty.ensures

pub returns-else-is_empty : goal.returns-else-is_empty
unfolding line_ended
returns-else-is_empty c =
    let t = c.args.text.now in
    ap (λ b. b || eqb (get_or t (length t - 1) 0) 10) c.if-is_empty.ensures
