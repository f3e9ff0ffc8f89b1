-- `balance::tabulate` meets its contract. The loop's invariant: the entries below i are there, and the others are even. Assumes nothing.
use mathlib.Core.Path.{◌≡◌, refl, ◌∙◌}
use mathlib.Core.List.{List}
use Prim.Native.Nat.{ℕ, ◌+◌, ◌/◌, ◌%◌, ◌<◌}
use native.Mathlib.Omega.{arith}
use native.Mathlib.Decide.{ℕ_discrete}
use lib.Arith.{lt_of_le-ne}
use lib.Dec.{ltb}
use lib.ListN.{get_or, set, replicate, length-set, get_or-replicate}
use lib.Seq.{get_or-set_same, get_or-set_other}
use borrow.Author.Tests.{ltb-true, ltb-false}
use Rattle.model.specs.Sheet.{sheet_of}
use Rattle.model.proofs.Lists.{by_test}
use Rattle.balance.specs.Balance.{symbol_at}
use Rattle.balance.proofs.Table.{even_there}
use Rattle.balance.proofs.tabulate.Goals as goal
use Rattle.balance.proofs.tabulate.Invariants.{Filled}

none_first : (P : ℕ → ℕ → Type 0) → Filled P (replicate 56 12) 0
none_first P = record { all = refl; there = λ j l. absurd (omega arith); even = λ j l h. get_or-replicate 56 j 12 0 h }

one_more : (P : ℕ → ℕ → Type 0) (t : List ℕ) (i n : ℕ) → i < 56 → Filled P t i → P i n → Filled P (set t i n) (i + 1)
one_more P t i n less before this = record {
  all = length-set t i n ∙ before.all;
  there = λ j l. by j l (ℕ_discrete j i);
  even = λ j l h. get_or-set_other t i j n 0 (λ e. omega arith) ∙ before.even j (omega arith) h;
}
  where
    by : (j : ℕ) → j < i + 1 → Dec (j ≡ i) → P j (get_or (set t i n) j 0)
    by j l (yes e) = rw (e, get_or-set_same t i n 0 (omega (arith, before.all))) this
    by j l (no e) = rw (get_or-set_other t i j n 0 e) (before.there j (lt_of_le-ne (omega arith) e))

pub loop-i-init : goal.loop-i-init
loop-i-init c = none_first _

pub surplus-requires : goal.surplus-requires
surplus-requires c = (c.requires, omega (arith, c.equations-i-end.ensures))

pub returns : goal.returns
returns c =
    let l = c.loop-i in
    let s = sheet_of c.args.sheet.now in (
      l.invariant.all,
      (λ j h. by_test (ltb j l.i)
          (λ e. l.invariant.there j (ltb-true j l.i e))
          (λ e. let past = ltb-false j l.i e in rw (l.invariant.even j past h) (even_there s (j / 14) (symbol_at (j % 14)) (omega (arith, c.equations-i-end.ensures))))),
    )
