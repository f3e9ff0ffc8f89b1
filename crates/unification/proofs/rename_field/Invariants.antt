use Rattle.std.proofs.Common.{◌≡◌, ℕ}
use Rattle.unification.specs.Names.{Computes}
use Rattle.unification.proofs.Loops.{mapped}
use Rattle.unification.proofs.rename_field.Given as goal

abbrev pub invariant-loop-c : goal.invariant-loop-c
invariant-loop-c g l = (s : ℕ → ℕ) → Computes (goal.F-post g l.by) s → l.letters ≡ mapped s l.t.letters l.c
