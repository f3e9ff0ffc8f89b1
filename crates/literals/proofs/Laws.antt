-- The nine codes of a place's values, and that nine codes are written as the clause's line. Assumes nothing.
use mathlib.Core.Path.{◌≡◌, refl, sym, ap, ap₂, ◌∙◌, fun_ext}
use mathlib.Core.List.{◌++◌, map}
use Prim.Native.Nat.{ℕ, zero, suc, ◌+◌, ◌-◌, ◌*◌, ◌≤◌}
use native.Mathlib.Omega.{arith}
use lib.ListN.{length, drop, replicate, length-map}
use Rattle.model.specs.Lists.{All, up_to}
use Rattle.model.specs.Sheet.{Sheet}
use Rattle.formula.specs.Clause.{K, Term, yes, ClauseId, SomeValue, terms, blank}
use Rattle.formula.specs.Numbering.{number, clause}
use Rattle.formula.specs.Dimacs.{clause_line}
use Rattle.model.proofs.Keeping.{map-map, length_from}
use Rattle.model.proofs.Seams.{drop-replicate}
use Rattle.dimacs.specs.Codes.{term_code, codes_line}
use Rattle.dimacs.proofs.Coded.{terms-line, padded_line}
use Rattle.codes.specs.Nine.{nine}

-- Every value of a place: consecutive numbers, and 0 after them.
pub some-nine : (s : Sheet) (f c first n : ℕ) → first ≡ number s (K f c 0) → n ≡ suc (blank s) → n ≤ 9 → map (λ k. 2 * (first + k)) (up_to n) ++ drop n (replicate 9 0) ≡ nine s (SomeValue f c)
unfolding nine terms number
some-nine s f c first n is e few =
    let value : ℕ → Term = λ a. yes (K f c a) in
    let l = length-map (up_to n) value ∙ length_from 0 n in
    let same : (k : ℕ) → 2 * (first + k) ≡ term_code s (value k) = λ k. omega arith in
    ap₂ ◌++◌
    (ap (λ (g : ℕ → ℕ). map g (up_to n)) (fun_ext same) ∙ sym (map-map (term_code s) value (up_to n)))
    (drop-replicate n 9 0 few ∙ ap (λ k. replicate (9 - k) 0) (sym l))
    ∙ ap (λ k. map (term_code s) (map value (up_to k)) ++ replicate (9 - length (map value (up_to k))) 0) e

-- what is written of the nine codes of a clause is its line
zeros : (n : ℕ) → All (λ (z : ℕ). z ≡ 0) (replicate n 0)
unfolding All
zeros zero = tt
zeros (suc n) = (refl, zeros n)

pub nine-line : (s : Sheet) (q : ClauseId) → codes_line (nine s q) ≡ clause_line (clause s q)
unfolding nine
nine-line s q =
    padded_line (map (term_code s) (terms s q)) (replicate (9 - length (terms s q)) 0) (zeros (9 - length (terms s q))) ∙ terms-line s q
