-- The code's progress in the words of the walk: what a callee's answer says, and what is left after each section. Assumes nothing.
use mathlib.Core.Path.{◌≡◌, sym, ap, subst, ◌∙◌}
use mathlib.Core.List.{List}
use Prim.Native.Nat.{ℕ, ◌+◌, ◌≤◌}
use native.Mathlib.Omega.{arith}
use lib.ListN.{length, take, drop, length-take, length-drop}
use lib.Seq.{drop-drop}
use Rattle.std.specs.Prelude.{Result, Ok, Err}
use Rattle.model.specs.Sheet.{Step, got, fault, rest, times, an_equation, a_constraint, Counts, walk}
use Rattle.model.proofs.Rests.{rest_stops, rest_goes, times-rest, entries_after, walk_goes}
use Rattle.rows.specs.Progress.{number_of, left, HasLanded, within}
use Rattle.sections.specs.Sections.{limits_in, entry_of, tables_of}
use Rattle.rows.specs.declared.Fault.{Fault}
use Rattle.sections.specs.declared.Section.TheVariants.{Equations, Constraints}

-- What a callee's answer says, once it is known.
module _ {A : Type 0} (b : List ℕ) (s : Step A) {r : Result ℕ Fault} (e : left b r ≡ rest s) where
  pub at_told : {k : ℕ} → r ≡ Ok k → rest s ≡ got tt (drop k b)
  at_told t = sym e ∙ ap (left b) t

  pub fault-told : {f : Fault} → r ≡ Err f → rest s ≡ fault (number_of f)
  fault-told t = sym e ∙ ap (left b) t

pub landed-told : (b : List ℕ) (n : ℕ) {r : Result ℕ Fault} {k : ℕ} → HasLanded b n r → r ≡ Ok k → (k ≡ n) × (n ≤ length b)
landed-told b n h t = subst (HasLanded b n) t h

pub within-told : (b : List ℕ) {r : Result ℕ Fault} {k : ℕ} → within b r → r ≡ Ok k → k ≤ length b
within-told b h t = subst (within b) t h

pub landed-within : (b : List ℕ) (n : ℕ) (r : Result ℕ Fault) → HasLanded b n r → within b r
landed-within b n (Ok k) h = omega (arith, h.0, h.1)
landed-within b n (Err f) h = tt

-- the limits of a sheet that is long enough
pub limits-length : (b : List ℕ) (l v : ℕ) → 9 + l + v ≤ length b → length (limits_in b l v) ≡ v
limits-length b l v h = rw (length-take v (drop (9 + l) b), length-drop (9 + l) b) (omega arith)

-- the same of a sheet's bytes, after a header and its letters and limits, in the words of the entries
module _ (b : List ℕ) (c : Counts) (k : ℕ) (h : rest (tables_of c.letter_count c.field_count (drop 9 b)) ≡ got tt (drop k b)) where
  after_tables : rest (walk c (drop 9 b)) ≡ rest (entries_after c (limits_in b c.letter_count c.field_count) (drop k b))
  after_tables =
      walk_goes c (drop 9 b) (drop k b) h
      ∙ ap (λ xs. rest (entries_after c (take c.field_count xs) (drop k b))) (drop-drop c.letter_count 9 b)

  pub equations_stop : {n : ℕ} → rest (times c.equation_count (entry_of b c.letter_count c.field_count Equations) (drop k b)) ≡ fault n → rest (walk c (drop 9 b)) ≡ fault n
  equations_stop e =
      after_tables
      ∙ rest_stops (times c.equation_count (an_equation c.letter_count (limits_in b c.letter_count c.field_count)) (drop k b)) _
      (times-rest (an_equation c.letter_count (limits_in b c.letter_count c.field_count)) c.equation_count (drop k b) ∙ e)

  pub constraints-left : (m : ℕ) → rest (times c.equation_count (entry_of b c.letter_count c.field_count Equations) (drop k b)) ≡ got tt (drop m b) → rest (walk c (drop 9 b)) ≡ rest (times c.constraint_count (entry_of b c.letter_count c.field_count Constraints) (drop m b))
  constraints-left m e =
      after_tables
      ∙ rest_goes (times c.equation_count (an_equation c.letter_count (limits_in b c.letter_count c.field_count)) (drop k b)) (times c.constraint_count (a_constraint c.field_count))
      (times-rest (an_equation c.letter_count (limits_in b c.letter_count c.field_count)) c.equation_count (drop k b) ∙ e)
      ∙ times-rest (a_constraint c.field_count) c.constraint_count (drop m b)
