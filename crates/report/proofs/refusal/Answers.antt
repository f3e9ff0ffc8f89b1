-- `report::refusal` meets its contract: three pieces, one after another, the number having at most three digits. Assumes nothing.
use mathlib.Core.Path.{refl}
use mathlib.Core.List.{List, [], ◌∷◌}
use Prim.Native.Nat.{ℕ, ◌≤◌}
use native.Mathlib.Omega.{arith}
use lib.ListN.{length}
use Rattle.formula.specs.Dimacs.{decimal}
use Rattle.calls.specs.Report.{refused_line}
use Rattle.model.proofs.Writing.{Writing, joined, begin, fits, next, ends}
use Rattle.report.proofs.Sizes.{refused-short}
use Rattle.report.proofs.refusal.Goals as goal

-- what is still to be written: the word, the number, the line end
begun : (buf : List ℕ) (n : ℕ) → n ≤ 999 → 12 ≤ length buf
    → Writing buf 0 (refused_line n) (114 ∷ 101 ∷ 102 ∷ 117 ∷ 115 ∷ 101 ∷ 100 ∷ 32 ∷ []) (decimal n ∷ (10 ∷ []) ∷ []) buf 0
unfolding refused_line joined
begun buf n small room =
    begin buf 0 _ (114 ∷ 101 ∷ 102 ∷ 117 ∷ 115 ∷ 101 ∷ 100 ∷ 32 ∷ []) (decimal n ∷ (10 ∷ []) ∷ []) refl (omega (arith, refused-short n small, room))

pub print-b-requires : goal.print-b-requires
print-b-requires c =
    fits (next (begun c.args.buf.now c.from.result (omega (arith, c.ranges.number)) c.requires) c.put-a.ensures c.put-a.auto.buf)

pub put-requires : goal.put-requires
put-requires c =
    let worded = next (begun c.args.buf.now c.from.result (omega (arith, c.ranges.number)) c.requires) c.put-a.ensures c.put-a.auto.buf in
    fits (next worded c.print-b.ensures c.print-b.auto.buf)

pub returns : goal.returns
returns c =
    let small : c.from.result ≤ 999 = omega (arith, c.ranges.number) in
    let worded = next (begun c.args.buf.now c.from.result small c.requires) c.put-a.ensures c.put-a.auto.buf in
    let numbered = next worded c.print-b.ensures c.print-b.auto.buf in
    let all = ends _ _ numbered c.put.ensures c.put.auto.buf in
    let n = refused-short c.from.result small in
    let e = c.from.ensures in
    (rw e at all, omega (arith, all.0))
