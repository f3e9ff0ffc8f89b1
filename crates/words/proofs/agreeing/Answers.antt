-- `words::agreeing` meets its contract. The loop's invariant: all letters before i agree, and the rests decide how many more do. Assumes nothing.
use mathlib.Core.Path.{◌≡◌}
use mathlib.Core.List.{List}
use Prim.Native.Nat.{ℕ, min, ◌≤◌}
use native.Mathlib.Omega.{arith}
use lib.Dec.{leb}
use lib.ListN.{length, drop}
use borrow.Author.Tests.{leb-true, leb-false}
use Rattle.model.specs.Sheet.{Sheet}
use Rattle.model.specs.Mismatch.{agreeing}
use Rattle.model.proofs.Lists.{by_test}
use Rattle.model.proofs.Mismatches.{agree_here, agree-no-more, agree-left-ended, agree-right-ended}
use Rattle.words.proofs.agreeing.Goals as goal

pub loop-i-init : goal.loop-i-init
loop-i-init c = λ s. omega arith

pub returns-then-left-i : goal.returns-then-left-i
returns-then-left-i c =
    let a = c.args in
    let l = c.loop-i in (
      omega arith,
      omega arith,
      λ s. omega (arith, l.invariant s, agree-no-more s a.left.now a.right.now l.i (omega arith) (omega arith) c.if-left-i.true),
    )

pub loop-i-preserved : goal.loop-i-preserved
loop-i-preserved c =
    let a = c.args in
    let l = c.loop-i in
    λ s. omega (arith, l.invariant s, agree_here s a.left.now a.right.now l.i (omega arith) (omega arith) c.if-left-i.false)

-- the one or the other word is used up
ended : (s : Sheet) (u w : List ℕ) (i : ℕ) → min (length u) (length w) ≤ i → agreeing s (drop i u) (drop i w) ≡ 0
ended s u w i h =
    by_test (leb (length u) i)
    (λ t. agree-left-ended s u w i (leb-true _ _ t))
    (λ t. let l = leb-false _ _ t in agree-right-ended s u w i (omega arith))

pub returns : goal.returns
returns c =
    let a = c.args in
    let l = c.loop-i in
    (omega arith, omega arith, λ s. omega (arith, l.invariant s, ended s a.left.now a.right.now l.i (omega arith)))
