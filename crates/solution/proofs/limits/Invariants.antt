use mathlib.Core.Path.{◌≡◌}
use mathlib.Core.List.{List}
use Prim.Native.Nat.{ℕ, ◌<◌, ◌≤◌}
use lib.ListN.{length, get_or}
use Rattle.model.specs.Sheet.{sheet_of, limit}
use Rattle.solution.proofs.limits.Given as goal

-- the first f of six lengths are those of h
pub record Copied (h : ℕ → ℕ) (n : List ℕ) (f : ℕ) : Type 0 where
  pub six : length n ≡ 6
  pub there : (k : ℕ) → k < f → get_or n k 0 ≡ h k
  pub none : (k : ℕ) → f ≤ k → get_or n k 0 ≡ 0

abbrev pub invariant-loop-f : goal.invariant-loop-f
invariant-loop-f l = Copied (limit (sheet_of l.sheet)) l.n l.f
