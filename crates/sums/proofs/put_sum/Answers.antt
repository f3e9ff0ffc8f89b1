-- `sums::put_sum` meets its contract. The loop's invariant: the lines of the lengths below d have been written. Assumes nothing.
use mathlib.Core.Path.{◌≡◌, refl, sym, subst}
use mathlib.Core.List.{List, [], ◌∷◌}
use Prim.Native.Nat.{ℕ, suc, ◌+◌, ◌≤◌}
use native.Mathlib.Omega.{arith}
use lib.IntN.{ℤ}
use lib.ListN.{length}
use mir.Syntax.{w8, w16}
use mir.Val.{to_z, of_z}
use Rattle.model.specs.Lists.{each, up_to, Puts}
use Rattle.model.proofs.Pieces.{loop_none, loop_room, loop_next, loop_done}
use Rattle.scan.proofs.Machine.{small_back}
use Rattle.dimacs.specs.Codes.{codes_line}
use Rattle.dimacs.proofs.Coded.{same_four}
use Rattle.sums.specs.Codes.{add_line, Added}
use Rattle.sums.specs.declared.Step.{Step}
use Rattle.sums.proofs.put_sum.Goals as goal

-- the lines, by the sum itself and by the sum as it is read back
abbrev lines : Step → ℕ → ℤ → ℕ → List ℕ
lines step here n = add_line here step.blank step.stride step.limit step.first step.low step.c n

abbrev machine : Step → ℕ → ℤ → ℕ → List ℕ
machine step here n = lines step here (to_z w16 (of_z w16 n))

module _ (step : Step) (here : ℕ) (n : ℤ) (few : (d : ℕ) → d ≤ step.limit → Added step.first step.low step.c n d) where
  sum_is : to_z w16 (of_z w16 n) ≡ n
  sum_is = small_back w16 n (omega (arith, (few 0 (omega arith)).sum_few))

  low_back : to_z w16 (of_z w16 step.low) ≡ step.low
  low_back = small_back w16 step.low (omega (arith, (few 0 (omega arith)).low_few))

  coefficient_back : to_z w8 (of_z w8 step.c) ≡ step.c
  coefficient_back = small_back w8 step.c (omega (arith, (few 0 (omega arith)).coefficient_few))

  backs : machine step here n ≡ lines step here n
  backs = rw sum_is

  room : (b : List ℕ) (at : ℕ) → at + length (each (up_to (suc step.limit)) (lines step here n)) ≤ length b
      → at + length (each (up_to (suc step.limit)) (machine step here n)) ≤ length b
  room b at h = subst (λ (g : ℕ → List ℕ). at + length (each (up_to (suc step.limit)) g) ≤ length b) (sym backs) h

pub loop-d-init : goal.loop-d-init
loop-d-init c = loop_none (machine c.args.step c.args.here c.args.n)

pub next_code-next-requires : goal.next_code-next-requires
next_code-next-requires c =
    let a = c.args in
    rw (low_back a.step a.here a.n c.requires.4, coefficient_back a.step a.here a.n c.requires.4, sum_is a.step a.here a.n c.requires.4) (c.requires.4 c.loop-d.d (omega (arith, c.loop-d-test.true)))

pub clause_line-past-requires : goal.clause_line-past-requires
unfolding add_line
clause_line-past-requires c =
    let is : codes_line (c.args.here ∷ c.shorter-short.result ∷ c.longer-long.result ∷ c.next_code-next.result ∷ []) ≡ machine c.args.step c.args.here c.args.n c.loop-d.d =
    same_four refl c.shorter-short.ensures c.longer-long.ensures (rw (low_back c.args.step c.args.here c.args.n c.requires.4, coefficient_back c.args.step c.args.here c.args.n c.requires.4) at c.next_code-next.ensures) in
    subst (λ w. c.loop-d.past + length w ≤ length c.loop-d.buf) (sym is)
    (loop_room (machine c.args.step c.args.here c.args.n) (suc c.args.step.limit) (room c.args.step c.args.here c.args.n c.requires.4 c.args.buf.now c.args.at c.requires.5) c.loop-d.invariant (omega (arith, c.loop-d-test.true)))

pub loop-d-preserved : goal.loop-d-preserved
unfolding add_line
loop-d-preserved c =
    let put = c.clause_line-past in
    let is : codes_line (c.args.here ∷ c.shorter-short.result ∷ c.longer-long.result ∷ c.next_code-next.result ∷ []) ≡ machine c.args.step c.args.here c.args.n c.loop-d.d =
    same_four refl c.shorter-short.ensures c.longer-long.ensures (rw (low_back c.args.step c.args.here c.args.n c.requires.4, coefficient_back c.args.step c.args.here c.args.n c.requires.4) at c.next_code-next.ensures) in
    let piece = subst (λ w. Puts c.loop-d.buf c.loop-d.past w put.new.buf put.result) is put.ensures in
    loop_next (machine c.args.step c.args.here c.args.n) (suc c.args.step.limit) (room c.args.step c.args.here c.args.n c.requires.4 c.args.buf.now c.args.at c.requires.5) c.loop-d.invariant (omega (arith, c.loop-d-test.true)) put.new.buf put.result piece put.auto.buf

pub returns : goal.returns
returns c =
    subst (λ (g : ℕ → List ℕ). Puts c.args.buf.now c.args.at (each (up_to (suc c.args.step.limit)) g) c.loop-d.buf c.loop-d.past) (backs c.args.step c.args.here c.args.n c.requires.4)
    (loop_done (machine c.args.step c.args.here c.args.n) (suc c.args.step.limit) (room c.args.step c.args.here c.args.n c.requires.4 c.args.buf.now c.args.at c.requires.5) c.loop-d.invariant (omega arith))
