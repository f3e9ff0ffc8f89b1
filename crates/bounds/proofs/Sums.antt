-- Sums of lengths. Assumes nothing.
use mathlib.Core.List.{List}
use Prim.Native.Nat.{ℕ, ◌<◌, ◌≤◌}
use native.Mathlib.Omega.{arith}
use lib.ListN.{get_or}
use Rattle.model.proofs.Keeping.{total_grows}
use Rattle.bounds.specs.Bounds.{sum_of}

-- a sum of lengths that are nowhere greater is not greater
pub sum_grows : (m n : List ℕ) → ((f : ℕ) → f < 6 → get_or m f 0 ≤ get_or n f 0) → sum_of m ≤ sum_of n
unfolding sum_of
sum_grows m n h = total_grows 6 6 (λ f. get_or m f 0) (λ f. get_or n f 0) (omega arith) h
