-- `size_sum::rise` meets its contract: by the coefficient's sign. Assumes nothing.
use mathlib.Core.Path.{◌≡◌, sym, ap, ap₂, ◌∙◌}
use Prim.Native.Nat.{◌-◌, ◌*◌}
use native.Mathlib.Omega.{arith}
use lib.IntN.{nat_abs}
use mir.Syntax.{w8}
use Rattle.scan.proofs.Machine.{small_back}
use Rattle.size_sum.proofs.Laws.{rise-negative, rise_other, rise-few}
use Rattle.size_sum.proofs.rise.Goals as goal
use Rattle.size_sum.proofs.rise.Lts as lts
use Rattle.size_sum.proofs.rise.Reads as reads
use Rattle.size_sum.proofs.rise.Tie as tie

factor : (c : lts.After-magnitude tie.the-claims reads.Pre reads.Post) → c.magnitude-factor.result ≡ nat_abs c.args.c
factor c = c.magnitude-factor.ensures ∙ ap nat_abs (small_back w8 c.args.c (omega (arith, c.requires.0)))

pub returns-then-c-lt0 : goal.returns-then-c-lt0
returns-then-c-lt0 c =
    let a = c.args in
    let back = small_back w8 a.c (omega (arith, c.requires.0)) in
    let is = ap₂ (λ x y. x * a.limit - y * a.d) (factor c.before) (factor c.before) ∙ sym (rise-negative a.c a.limit a.d (rw back at c.if-c-lt0.true)) in
    (is, omega (arith, rise-few a.c a.limit a.d c.requires.0 c.requires.1 c.requires.2))

pub returns : goal.returns
returns c =
    let a = c.args in
    let back = small_back w8 a.c (omega (arith, c.requires.0)) in
    let is = ap (λ x. x * a.d) (factor c.before) ∙ sym (rise_other a.c a.limit a.d (rw back at c.if-c-lt0.false)) in
    (is, omega (arith, rise-few a.c a.limit a.d c.requires.0 c.requires.1 c.requires.2))
