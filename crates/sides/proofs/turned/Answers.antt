-- `sides::turned` meets its contract. Assumes nothing.
use mathlib.Core.Path.{◌≡◌, ap, ◌∙◌}
use Prim.Native.Nat.{ℕ, ◌-◌, ◌/◌, ◌%◌, ◌<◌, ◌≤◌}
use native.Mathlib.Omega.{arith}
use borrow.Author.Tests.{lt-ltb, le-ltb}
use Rattle.model.specs.Sheet.{Sheet, limit, sheet_of}
use Rattle.formula.proofs.Small.{fields-few, limit-small}
use Rattle.sides.specs.Reversal.{turned_byte}
use Rattle.sides.proofs.turned.Goals as goal
use Rattle.sides.proofs.turned.Lts as lts
use Rattle.sides.proofs.turned.Reads as reads
use Rattle.sides.proofs.turned.Tie as tie

pub returns-then-b-lt-FIRST_PLACE : goal.returns-then-b-lt-FIRST_PLACE
unfolding turned_byte
returns-then-b-lt-FIRST_PLACE c = rw (lt-ltb c.args.b 8 (omega (arith, c.if-b-lt-FIRST_PLACE.true)))

-- the sheet, the byte, and what is known of the field and of the place in it
abbrev s : lts.After-limit tie.the-claims reads.Pre reads.Post → Sheet
s c = sheet_of c.args.sheet.now

abbrev b : lts.After-limit tie.the-claims reads.Pre reads.Post → ℕ
b c = c.args.b

limit_is : (c : lts.After-limit tie.the-claims reads.Pre reads.Post) → c.limit-limit.result ≡ limit (s c) ((b c - 8) / 8)
limit_is c = c.limit-limit.ensures ∙ ap (limit (s c)) c.from.ensures

place-small : (c : lts.After-limit tie.the-claims reads.Pre reads.Post) → ((b c - 8) / 8 < 6) × ((b c - 8) % 8 < c.limit-limit.result) × (c.limit-limit.result ≤ 8)
place-small c =
    let ok = c.requires.0.1 in
    let place = c.requires.1 c.if-b-lt-FIRST_PLACE.false in
    let few = fields-few (s c) ok in
    let low = limit-small (s c) ok ((b c - 8) / 8) in
    let e = limit_is c in
    (omega (arith, place.0), omega (arith, place.1), omega arith)

pub overflow_add-result-2 : goal.overflow_add-result-2
overflow_add-result-2 c = omega (arith, (place-small c.before).0, (place-small c.before).2)

pub returns : goal.returns
unfolding turned_byte
returns c = simp (le-ltb _ _ c.if-b-lt-FIRST_PLACE.false) (rw (limit_is c.before))
