-- `counting::field_count` meets its contract. Assumes nothing.
use mathlib.Core.Path.{◌∙◌}
use Prim.Native.Nat.{◌+◌, ◌*◌, ◌≤◌}
use native.Mathlib.Nat.{mul-le-mul}
use native.Mathlib.Omega.{arith}
use Rattle.model.specs.Sheet.{sheet_of}
use Rattle.counting.proofs.Laws.{field-known}
use Rattle.counting.proofs.field_count.Goals as goal
use Rattle.counting.proofs.field_count.Lts as lts
use Rattle.counting.proofs.field_count.Reads as reads
use Rattle.counting.proofs.field_count.Tie as tie

the-product : (c : lts.After-not_both_count tie.the-claims reads.Pre reads.Post) → c.limit-limit.result * (2 + c.not_both_count.result) ≤ 592
the-product c =
    let pairs : 2 + c.not_both_count.result ≤ 74 = omega (arith, c.not_both_count.ensures) in
    let few : c.limit-limit.result * (2 + c.not_both_count.result) ≤ 8 * 74 = mul-le-mul c.limit-limit.ensures.1 pairs in
    few

pub returns : goal.returns
returns c =
    let is = field-known (sheet_of c.args.sheet.now) c.args.f c.limit-limit.result c.letters.result c.not_both_count.result c.limit-limit.ensures.0 c.letters.ensures c.not_both_count.ensures.0 in
    (c.saturating_sub.ensures ∙ is, omega (arith, the-product c.before.before, c.saturating_sub.ensures))
