-- Assignments of the clause file's variables: which of them satisfy the clauses, and the substitution that one spells.
use Rattle.std.specs.Prelude.{◌≡◌, Bool, true, false, not, List, [], ◌∷◌, map, ℕ, zero, suc, ◌≤◌, eqb, ℤ, pos, negsuc, length, get_or}
use Rattle.model.specs.Lists.{pick, from, up_to, any, all, keep}
use Rattle.model.specs.Sheet.{Sheet, limit}
use Rattle.model.specs.Word.{Substitution}
use Rattle.formula.specs.Clause.{K, ids, blank, fields}
use Rattle.formula.specs.Numbering.{number}
use Rattle.formula.specs.Dimacs.{line, numbers}

-- "An assignment makes each variable, from 1 to the variable count, true or false." What it says of other numbers plays no part
-- (`only-variables` of the proofs).
abbrev pub Assignment : Type 0
Assignment = ℕ → Bool

-- An assignment held as marks, one for each number from 0 on: true where the mark is 1.
unfoldable pub truth : List ℕ → Assignment
truth marks n = eqb (get_or marks n 0) 1

-- "a true literal: a number whose variable is true, or a minus number whose variable is false". The 0 that ends a line is no literal.
abbrev pub true_number : Assignment → ℤ → Bool
true_number w (pos zero) = false
true_number w (pos (suc n)) = w (suc n)
true_number w (negsuc n) = not (w (suc n))

-- "It satisfies the clauses when each of lines 1 to C has a true literal": among the numbers that the bytes of the line list.
abbrev pub Satisfies : Sheet → Assignment → Type 0
Satisfies s w = (n : ℕ) → 1 ≤ n → n ≤ length (ids s) → any (true_number w) (numbers (line s n)) ≡ true

-- The same as a test. `Satisfying.antt` shows that it decides it.
unfoldable pub satisfied : Sheet → Assignment → Bool
satisfied s w = all (λ n. any (true_number w) (numbers (line s n))) (from 1 (length (ids s)))

-- The values that are true at place c of field f: letters, or L for blank. "satisfied clauses leave just one true value at each place".
unfoldable pub true_values : Sheet → Assignment → ℕ → ℕ → List ℕ
true_values s w f c = keep (λ a. w (number s (K f c a))) (up_to (suc (blank s)))

abbrev pub OneValue : Sheet → Assignment → ℕ → ℕ → Type 0
OneValue s w f c = length (true_values s w f c) ≡ 1

-- "at place c the letter a for which K(f,c,a) is true", or L for blank. Where several are true it is the least, where none is it is blank;
-- satisfied clauses exclude both.
abbrev pub held : Sheet → Assignment → ℕ → ℕ → ℕ
held s w f c = get_or (true_values s w f c) 0 (blank s)

-- "from place 0 up to the first blank or the limit": of the n places from c on, place c having the value h c
unfoldable pub up_to_blank : ℕ → (ℕ → ℕ) → ℕ → ℕ → List ℕ
up_to_blank l h c zero = []
up_to_blank l h c (suc n) = pick (eqb (h c) l) [] (h c ∷ up_to_blank l h (suc c) n)

-- "It spells the filling that gives each field f, from place 0 up to the first blank or the limit, at place c the letter a for which
-- K(f,c,a) is true".
unfoldable pub spelled : Sheet → Assignment → Substitution
spelled s w = map (λ f. up_to_blank (blank s) (held s w f) 0 (limit s f)) (up_to (fields s))
