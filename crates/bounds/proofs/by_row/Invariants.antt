use mathlib.Core.Path.{◌≡◌}
use Prim.Native.Nat.{ℕ, ◌+◌, ◌<◌}
use lib.ListN.{get_or, length}
use Rattle.bounds.specs.Bounds.{FieldNarrowed}
use Rattle.bounds.proofs.by_row.Given as goal

abbrev pub invariant-loop-f : goal.invariant-loop-f
invariant-loop-f l = record {
  low_six : length l.lo ≡ 6;
  high_six : length l.hi ≡ 6;
  before : (f : ℕ) → f < l.f → FieldNarrowed (get_or l.rows (l.at + f) 0) (get_or l.rows (l.at + f + 7) 0) l.slack
      (get_or l.ranges.lo f 0) (get_or l.ranges.hi f 0) (get_or l.lo f 0) (get_or l.hi f 0);
}
