use mathlib.Core.Path.{◌≡◌}
use mathlib.Core.List.{List}
use Prim.Native.Nat.{ℕ, ◌-◌, ◌≤◌}
use lib.ListN.{length, drop}
use Rattle.model.specs.Sheet.{Step, times, rest}
use Rattle.book.specs.Book.{a_template}
use Rattle.book_read.proofs.templates.Given as goal

-- one template, without what was read
abbrev pub one : ℕ → List ℕ → Step Unit
one l xs = rest (a_template l xs)

abbrev pub invariant-loop : goal.invariant-loop
invariant-loop l = (l.at ≤ length l.book) × (rest (times l.n (a_template l.letters) (drop l.start l.book)) ≡ rest (times (l.n - l.counter) (one l.letters) (drop l.at l.book)))
