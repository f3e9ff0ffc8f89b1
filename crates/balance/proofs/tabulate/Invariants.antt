use mathlib.Core.Path.{◌≡◌}
use mathlib.Core.List.{List}
use Prim.Native.Nat.{ℕ, ◌/◌, ◌%◌, ◌<◌, ◌≤◌}
use lib.ListN.{length, get_or}
use Rattle.model.specs.Sheet.{sheet_of}
use Rattle.balance.specs.Balance.{Surplus, symbol_at}
use Rattle.balance.proofs.tabulate.Given as goal

-- the first i of 56 entries are there
pub record Filled (P : ℕ → ℕ → Type 0) (t : List ℕ) (i : ℕ) : Type 0 where
  pub all : length t ≡ 56
  pub there : (j : ℕ) → j < i → P j (get_or t j 0)
  pub even : (j : ℕ) → i ≤ j → j < 56 → get_or t j 0 ≡ 12

abbrev pub invariant-loop-i : goal.invariant-loop-i
invariant-loop-i l = Filled (λ j n. Surplus (sheet_of l.sheet) (j / 14) (symbol_at (j % 14)) n) l.table l.i
