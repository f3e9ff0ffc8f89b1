-- `schedule_table::put_table` meets its contract. The loop's invariant: the table is right up to here. Assumes nothing.
use mathlib.Core.Path.{◌≡◌, sym, subst}
use mathlib.Core.List.{List}
use Prim.Native.Nat.{ℕ, ◌+◌, ◌*◌, ◌/◌, ◌%◌, ◌<◌, ◌≤◌}
use native.Mathlib.Omega.{arith}
use lib.Arith.{lt_of_le-ne}
use lib.Dec.{eqb}
use lib.ListN.{length, get_or, set}
use lib.Seq.{get_or-set_same, get_or-set_other}
use borrow.Author.Tests.{eqb-true, eqb-false}
use Rattle.model.proofs.Lists.{by_test}
use Rattle.schedule.specs.Schedule.{Schedule, schedule_of}
use Rattle.schedule_table.specs.Table.{Marks}
use Rattle.schedule_table.proofs.put_table.Goals as goal
use Rattle.schedule_table.proofs.put_table.Invariants.{ShowsTo}

-- one byte more: it is that of one pair alone, since no row has more than 16
one_more : (k n : ℕ) (s : Schedule) (table : List ℕ) (v : ℕ) → n ≤ 16 → k < length table → ShowsTo k n s table → Marks n s (k / 16) (k % 16) v → ShowsTo (k + 1) n s (set table k v)
one_more k n s table v few inside h m i j l a b = by_test (eqb (i * 16 + j) k)
    (λ t.
    let e = eqb-true (i * 16 + j) k t in
    let p : k / 16 ≡ i = omega arith in
    let q : k % 16 ≡ j = omega arith in
    subst (λ x. Marks n s i j (get_or (set table k v) x 0)) (sym e)
    (subst (Marks n s i j) (sym (get_or-set_same table k v 0 inside)) (subst (λ x. Marks n s i x v) q (subst (λ x. Marks n s x (k % 16) v) p m))) a b)
    (λ t.
    let d = eqb-false (i * 16 + j) k t in
    let z : i * 16 + j ≤ k = omega arith in
    subst (Marks n s i j) (sym (get_or-set_other table k (i * 16 + j) v 0 d)) (h i j (lt_of_le-ne z d)) a b)

pub loop-k-init : goal.loop-k-init
loop-k-init c i j l a b = absurd (omega arith)

pub loop-k-preserved : goal.loop-k-preserved
loop-k-preserved c =
    let l = c.loop-k in
    one_more l.k c.args.n (schedule_of c.args.n c.args.hours.now) l.table c.mark.result c.requires.1 (omega arith) l.invariant c.mark.ensures

pub returns : goal.returns
returns c i j a b = c.loop-k.invariant i j (omega (arith, c.requires, c.loop-k-test.false)) a b
