-- `numbering::within` meets its contract: the limit below the least sum, or not. Assumes nothing.
use mathlib.Core.Path.{◌≡◌, ◌∙◌}
use Prim.Native.Nat.{◌+◌}
use native.Mathlib.Omega.{arith}
use lib.IntN.{◌-ℤ◌}
use Rattle.model.specs.Sheet.{sheet_of, constraint}
use Rattle.formula.specs.Count.{at_most, within}
use Rattle.numbering.proofs.Limits.{none_within, some-within, within-known}
use Rattle.numbering.proofs.within.Goals as goal
use Rattle.numbering.proofs.within.Lts as lts
use Rattle.numbering.proofs.within.Reads as reads
use Rattle.numbering.proofs.within.Tie as tie

-- what is asked for, by the numbers at hand
the_known : (c : lts.After-most tie.the-claims reads.Pre reads.Post) →
    let at-start = c.before.before.before.before.before in
    at_most (c.most-most.result -ℤ c.least-least.result) (c.spread-sums.result + 1) ≡ within (sheet_of at-start.args.sheet.now) (constraint (sheet_of at-start.args.sheet.now) at-start.args.r)
the_known c =
    let at-start = c.before.before.before.before.before in
    let at_fields = c.fields-fields in
    let at-spread = c.spread-sums in
    within-known (sheet_of at-start.args.sheet.now) at-start.args.r c.most-most.result c.least-least.result at_fields.result at-spread.result c.most-most.ensures at_fields.ensures c.least-least.ensures at-spread.ensures.0

pub returns-then-most-least : goal.returns-then-most-least
returns-then-most-least c =
    (none_within c.most-most.result c.least-least.result (record { sfits = c.most-most.type_inv }) (record { sfits = c.least-least.type_inv }) (c.spread-sums.result + 1) c.if-most-least.true ∙ the_known c.before.before, omega arith)

pub returns-else-most-least : goal.returns-else-most-least
returns-else-most-least c =
    let e = c.from.ensures ∙ c.abs_diff.ensures in
    (c.min.ensures ∙ some-within c.most-most.result c.least-least.result (record { sfits = c.most-most.type_inv }) (record { sfits = c.least-least.type_inv }) (c.spread-sums.result + 1) c.from.result c.if-most-least.false e ∙ the_known c.before.before.before.before.before, omega (arith, c.spread-sums.ensures))
