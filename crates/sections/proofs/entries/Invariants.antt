use mathlib.Core.Path.{◌≡◌}
use Prim.Native.Nat.{◌-◌, ◌≤◌}
use lib.ListN.{length, drop}
use Rattle.model.specs.Sheet.{times, rest}
use Rattle.sections.specs.Sections.{entry_of}
use Rattle.sections.proofs.entries.Given as goal

abbrev pub invariant-loop : goal.invariant-loop
invariant-loop l = (l.at ≤ length l.sheet) × (rest (times l.n (entry_of l.sheet l.letters l.fields l.section) (drop l.start l.sheet)) ≡ rest (times (l.n - l.counter) (entry_of l.sheet l.letters l.fields l.section) (drop l.at l.sheet)))
