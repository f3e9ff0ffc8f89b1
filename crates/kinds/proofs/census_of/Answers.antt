-- `kinds::census_of` meets its contract. The loop's invariant: the census of the first j cells. Assumes nothing.
use native.Mathlib.Omega.{arith}
use Rattle.shape.proofs.Sides.{says_used}
use Rattle.kinds.proofs.Laws.{none-counted, more-counted, counted-few}
use Rattle.kinds.proofs.census_of.Goals as goal

pub loop-j-init : goal.loop-j-init
loop-j-init c = none-counted c.args.l c.args.right

pub add-requires : goal.add-requires
add-requires c =
    let a = c.args in
    let l = c.loop-j in
    let few = counted-few a.l a.right c.requires.0 l.j (omega (arith, c.requires.1)) l.sum l.invariant in
    (c.requires.0, (λ e. c.requires.2 l.j c.loop-j-test.true (says_used _ e)), few.0, omega (arith, few.1, c.requires.1), omega (arith, few.1, c.requires.1))

pub loop-j-preserved : goal.loop-j-preserved
loop-j-preserved c =
    let a = c.args in
    let l = c.loop-j in
    more-counted a.l a.right l.j l.sum c.add.new.self l.invariant c.add.ensures
