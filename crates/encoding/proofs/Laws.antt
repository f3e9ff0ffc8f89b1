-- What is written is the line of the model: the first line fits, and a later line is that of the clause that is found. Assumes nothing.
use mathlib.Core.Path.{◌≡◌, refl, ap, ◌∙◌}
use Prim.Native.Nat.{ℕ, suc, ◌<◌, ◌≤◌}
use native.Mathlib.Omega.{arith}
use lib.ListN.{length}
use Rattle.model.specs.Sheet.{Sheet}
use Rattle.formula.specs.Clause.{none, ids, id_at}
use Rattle.formula.specs.Count.{IdIn}
use Rattle.formula.specs.Dimacs.{problem_line, line}
use Rattle.model.proofs.Lists.{at}
use Rattle.formula.proofs.Named.{ids_in}
use Rattle.formula.proofs.Lines.{problem_short}
use Rattle.dimacs.specs.Codes.{codes_line}
use Rattle.codes.specs.Nine.{nine}
use Rattle.literals.proofs.Laws.{nine-line}
use Rattle.std.specs.Prelude.{Result, Ok, Err, Some}
use Rattle.std.specs.Result.{result_ok}
use Rattle.literals.specs.declared.ClauseId.{ClauseId}
use Rattle.literals.specs.Name.{name_of, line_of}
use Rattle.finding.specs.Sought.{Sought}

pub first_fits : (v c room : ℕ) → v ≤ 9999 → c ≤ 99999 → 80 ≤ room → length (problem_line v c) ≤ room
first_fits v c room few many h = omega (arith, problem_short v c few many)

pub later-line : (s : Sheet) (n : ℕ) → line_of s (id_at s n) ≡ line s (suc n)
unfolding line
later-line s n = refl

-- the same of its nine codes
pub later-codes : (s : Sheet) (n : ℕ) → codes_line (nine s (id_at s n)) ≡ line s (suc n)
unfolding line
later-codes s n = nine-line s (id_at s n)

-- the clause that is found
pub told : (s : Sheet) (n : ℕ) (r : Result ClauseId ℕ) (q : ClauseId) → Some q ≡ result_ok r → Sought s 0 (length (ids s)) n r
    → (n < length (ids s)) × (name_of q ≡ id_at s n)
told s n (Ok x) q e h = let k : q ≡ x = cc in (h.0, ap name_of k ∙ h.1 ∙ ap (λ m. id_at s m) (omega arith))
told s n (Err k) q e h = cc

pub id_in : (s : Sheet) (n : ℕ) → n < length (ids s) → IdIn s (id_at s n)
id_in s n h = at (IdIn s) (ids s) n none (ids_in s) h
