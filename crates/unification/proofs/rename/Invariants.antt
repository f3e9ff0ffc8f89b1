use Rattle.std.proofs.Common.{◌≡◌, ℕ}
use Rattle.unification.specs.Names.{map_field, Computes}
use Rattle.unification.proofs.Loops.{mapped}
use Rattle.unification.proofs.rename.Given as goal

abbrev pub invariant-loop-f : goal.invariant-loop-f
invariant-loop-f g l = (s : ℕ → ℕ) → Computes (goal.F-post g l.by) s → l.h ≡ mapped (map_field s) l.g l.f
