-- `size_file::pairs_size` meets its contract. The loop's invariant: the sum is that of the pairs whose first value is below a. Assumes nothing.
use mathlib.Core.Path.{◌≡◌, sym, ap, ◌∙◌}
use mathlib.Core.List.{List}
use Prim.Native.Nat.{ℕ, suc}
use native.Mathlib.Omega.{arith}
use lib.ListN.{length}
use Rattle.model.specs.Lists.{each, up_to}
use Rattle.rendering.specs.Codes.{pair_lines}
use Rattle.model.proofs.Keeping.{length_none, length_more}
use Rattle.size_file.proofs.pairs_size.Goals as goal
use Rattle.size_file.proofs.pairs_size.Lts as lts
use Rattle.size_file.proofs.pairs_size.Reads as reads
use Rattle.size_file.proofs.pairs_size.Tie as tie

abbrev lines : lts.Start tie.the-claims reads.Pre reads.Post goal.the-invariant-loop-a goal.the-decreases-loop-a → ℕ → List ℕ
lines start = pair_lines start.args.first start.args.letters

pub loop-a-init : goal.loop-a-init
loop-a-init c = (sym (length_none (lines c)), omega arith)

pub loop-a-preserved : goal.loop-a-preserved
loop-a-preserved c =
    let l = c.loop-a in
    let more = length_more (lines c.before.before.before) l.a in
    (omega (arith, l.invariant.0, c.unlike_size-sum.ensures.0), omega (arith, l.invariant.1, c.unlike_size-sum.ensures.1, c.requires.1))

pub returns : goal.returns
returns c =
    let l = c.loop-a in
    let e : l.a ≡ suc c.args.letters = omega (arith, l.auto.a-end) in
    (l.invariant.0 ∙ ap (λ k. length (each (up_to k) (lines c.before.before))) e, omega (arith, l.invariant, c.requires.1))
