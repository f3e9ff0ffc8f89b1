-- `size_line::matches_size` meets its contract. Assumes nothing.
use mathlib.Core.Path.{ap₂}
use Prim.Native.Nat.{◌+◌, ◌*◌, ◌≤◌}
use native.Mathlib.Omega.{arith}
use Rattle.size_line.proofs.Laws.{match_lines, most}
use Rattle.size_line.proofs.matches_size.Goals as goal
use Rattle.size_line.proofs.matches_size.Lts as lts
use Rattle.size_line.proofs.matches_size.Reads as reads
use Rattle.size_line.proofs.matches_size.Tie as tie

-- what all lines have, at most
common : (c : lts.After-literal_size2 tie.the-claims reads.Pre reads.Post) → c.args.l * (c.literal_size.result + c.literal_size-2.result + 2) ≤ c.args.l * 16
common c = most c.args.l (c.literal_size.result + c.literal_size-2.result + 2) 16 (omega (arith, c.literal_size.ensures.1, c.literal_size-2.ensures.1))

pub overflow_mul-result : goal.overflow_mul-result
overflow_mul-result c = omega (arith, c.requires.0, common c)

pub overflow_add-result-3 : goal.overflow_add-result-3
overflow_add-result-3 c = omega (arith, c.requires.0, common c.before, c.literals_size.ensures.1)

pub overflow_add-result-4 : goal.overflow_add-result-4
overflow_add-result-4 c = omega (arith, c.requires.0, common c.before.before, c.literals_size.ensures.1, c.literals_size-2.ensures.1)

pub returns : goal.returns
returns c =
    let a = c.args in
    let this = ap₂ (λ v w. a.l * (v + w + 2)) c.literal_size.ensures.0 c.literal_size-2.ensures.0 in
    let all = match_lines a.l a.here a.x a.y in
    (omega (arith, c.literals_size.ensures.0, c.literals_size-2.ensures.0), omega (arith, common c.before.before, c.literals_size.ensures.1, c.literals_size-2.ensures.1))
