-- The lines of the clause file: the numbers that a clause's line lists are the clause and then 0, no number of a clause is 0, and no line is
-- longer than 80 bytes; and the file is as long as its lines together. Assumes nothing.
use mathlib.Core.Path.{◌≡◌, refl, sym, ap, ap₂, ◌∙◌}
use mathlib.Core.Bool.{Bool, true, false}
use mathlib.Core.List.{List, [], ◌∷◌, ◌++◌, map, append_assoc}
use Prim.Native.Nat.{ℕ, zero, suc, ◌+◌, ◌-◌, ◌*◌, ◌≤◌}
use native.Mathlib.Nat.{mul-le-mul}
use native.Mathlib.Omega.{arith}
use lib.IntN.{ℤ, pos, negsuc, neg_ℤ, nat_abs}
use lib.ListN.{length, length-append, length-map}
use borrow.Author.Tests.{ne_eqb}
use Rattle.model.specs.Lists.{each, up_to, All}
use Rattle.model.specs.Sheet.{Sheet}
use Rattle.model.specs.Range.{InRange}
use Rattle.formula.specs.Clause.{Literal, is, isnt, Term, known, unknown, ClauseId, SomeValue, NotBoth, BlankTail, Start, Left, Right, Both, Match, End, Zero, Add, Bound, terms, literal_of, literals, ids, id_at, blank, yes, K, none}
use Rattle.formula.specs.Numbering.{signed_number, number, clause, variables, variable_count}
use Rattle.formula.specs.Count.{IdIn}
use Rattle.formula.specs.Dimacs.{decimal, problem_line, literal_bytes, clause_line, line, file, file_size, most_file, with_sign, numbers_from, numbers, value_from}
use Rattle.formula.proofs.Named.{ids_in}
use Rattle.formula.proofs.Totals.{clause_count_lem}
use Rattle.model.proofs.Lists.{at, weaken, map_in, each_in, or_false}
use Rattle.model.proofs.Sums.{abs_neg}
use Rattle.model.proofs.Keeping.{length_from, below_in, each-most, each-short, length_loop}
use Rattle.formula.proofs.Numbering.{variable_count_lem, positive, value-small, number_small}
use Rattle.formula.proofs.Small.{letters-few, k_small, variables-small, clauses_small}
use Rattle.formula.proofs.Figures.{Figure, decimal-digits, decimal-value, decimal-short, decimal-short_three, decimal-short_four}
use Rattle.formula.proofs.Valid.{LiteralIn, literals_in}
use Rattle.model.proofs.Templates.{well_formed}

-- No number of a clause is 0.
every : {A : Type 0} (P : A → Type 0) → ((x : A) → P x) → (xs : List A) → All P xs
unfolding All
every P f [] = tt
every P f (x ∷ xs) = (f x, every P f xs)

pub clause-numbers : (s : Sheet) (q : ClauseId) → All (λ z. z ≡ pos 0 → ⊥) (clause s q)
unfolding clause
clause-numbers s q = map_in (λ z. z ≡ pos 0 → ⊥) (signed_number s) (literals s q) (every (λ l. signed_number s l ≡ pos 0 → ⊥) one (literals s q))
  where
    one : (l : Literal) → signed_number s l ≡ pos 0 → ⊥
    one (is x) e = let n = positive s x in let z = ap nat_abs e in omega arith
    one (isnt x) e = let n = positive s x in let z = ap nat_abs e in let m = abs_neg (number s x) in omega arith

-- What is read of the figures of a number: nothing before its end, and then the number.
pub figures_read : (minus : Bool) (n : ℕ) (xs ys : List ℕ) → All Figure xs → numbers_from minus n (xs ++ ys) ≡ numbers_from minus (value_from n xs) ys
unfolding All numbers_from value_from
figures_read minus n [] ys h = refl
figures_read minus n (x ∷ xs) ys h =
    let low = h.0.0 in
    rw (ne_eqb x 32 (λ e. omega arith), ne_eqb x 10 (λ e. omega arith), ne_eqb x 45 (λ e. omega arith), or_false minus)
    (figures_read minus (n * 10 + (x - 48)) xs ys h.1)

decimal-read : (minus : Bool) (n : ℕ) (ys : List ℕ)
    → numbers_from minus 0 (decimal n ++ (32 ∷ ys)) ≡ with_sign minus n ∷ numbers_from false 0 ys
unfolding numbers_from
decimal-read minus n ys =
    figures_read minus 0 (decimal n) (32 ∷ ys) (decimal-digits n) ∙ ap (λ k. numbers_from minus k (32 ∷ ys)) (decimal-value n)

literal_read : (z : ℤ) (ys : List ℕ) → numbers_from false 0 (literal_bytes z ++ ys) ≡ z ∷ numbers_from false 0 ys
unfolding numbers_from
literal_read (pos n) ys = ap (numbers_from false 0) (append_assoc (decimal n) (32 ∷ []) ys) ∙ decimal-read false n ys
literal_read (negsuc n) ys = ap (numbers_from true 0) (append_assoc (decimal (suc n)) (32 ∷ []) ys) ∙ decimal-read true (suc n) ys

pub literals-read : (zs : List ℤ) (ys : List ℕ) → numbers_from false 0 (each zs literal_bytes ++ ys) ≡ zs ++ numbers_from false 0 ys
unfolding each
literals-read [] ys = refl
literals-read (z ∷ zs) ys =
    ap (numbers_from false 0) (append_assoc (literal_bytes z) (each zs literal_bytes) ys)
    ∙ literal_read z (each zs literal_bytes ++ ys)
    ∙ ap (λ w. z ∷ w) (literals-read zs ys)

pub numbers-line : (s : Sheet) (n : ℕ) → numbers (line s (suc n)) ≡ clause s (id_at s n) ++ (pos 0 ∷ [])
unfolding line clause_line numbers_from
numbers-line s n = literals-read (clause s (id_at s n)) (48 ∷ 10 ∷ [])

-- How long lines are, for all that bounds or measures them: a number and the space after it; what stands in a line, and its nought and line end; line 0.
pub number-length : (n : ℕ) → length (decimal n ++ (32 ∷ [])) ≡ length (decimal n) + 1
number-length n = length-append (decimal n) (32 ∷ [])

pub ended-length : (xs : List ℕ) → length (xs ++ (48 ∷ 10 ∷ [])) ≡ length xs + 2
ended-length xs = length-append xs (48 ∷ 10 ∷ [])

pub problem_length : (v c : ℕ) → length (problem_line v c) ≡ 6 + length (decimal v) + 1 + length (decimal c) + 1
unfolding problem_line
problem_length v c =
    let a = length-append (decimal v) ((32 ∷ []) ++ (decimal c ++ (10 ∷ []))) in
    let b = length-append (decimal c) (10 ∷ []) in
    omega arith

-- No literal is long.
literal_short : (z : ℤ) → nat_abs z ≤ 9999 → length (literal_bytes z) ≤ 6
literal_short (pos n) h = omega (arith, decimal-short_four n h, number-length n)
literal_short (negsuc n) h = omega (arith, decimal-short_four (suc n) h, number-length (suc n))

module _ (s : Sheet) (ok : InRange s) where
  signed-short : (l : Literal) → LiteralIn s l → length (literal_bytes (signed_number s l)) ≤ 6
  signed-short (is x) h =
      let a = number_small s x h in
      let b = variables-small s ok in
      literal_short (pos (number s x)) (omega arith)
  signed-short (isnt x) h =
      let a = number_small s x h in
      let b = variables-small s ok in
      let e = abs_neg (number s x) in
      literal_short (neg_ℤ (pos (number s x))) (omega arith)

  literals-few : (q : ClauseId) → length (literals s q) ≤ length (terms s q)
  unfolding literals
  literals-few q = let h = each-most 1 literal_of (terms s q) (every _ one (terms s q)) in omega arith
    where
      one : (t : Term) → length (literal_of t) ≤ 1
      one (known b) = omega arith
      one (unknown l) = omega arith

  -- a clause of at most n terms, each of at most k bytes
  short_by : (q : ClauseId) (n k : ℕ) → length (terms s q) ≤ n → All (λ l. length (literal_bytes (signed_number s l)) ≤ k) (literals s q)
      → length (clause_line (clause s q)) ≤ n * k + 2
  unfolding clause clause_line
  short_by q n k few short =
      let zs : List ℤ = map (signed_number s) (literals s q) in
      let e = length-map (literals s q) (signed_number s) in
      let m = each-most k literal_bytes zs (map_in (λ z. length (literal_bytes z) ≤ k) (signed_number s) (literals s q) short) in
      let less : length zs ≤ n = omega (arith, literals-few q) in
      let same : k ≤ k = omega arith in
      let most = mul-le-mul less same in
      omega (arith, ended-length (each zs literal_bytes))

  -- of at most four, and of the values of a place, whose numbers are the least
  four : (q : ClauseId) → length (terms s q) ≤ 4 → IdIn s q → length (clause_line (clause s q)) ≤ 38
  four q few h =
      let l = short_by q 4 6 few (weaken _ _ (literals s q) signed-short (literals_in s (well_formed s ok) q h)) in
      omega arith

  values-short : (f c : ℕ) → IdIn s (SomeValue f c) → All (λ l. length (literal_bytes (signed_number s l)) ≤ 4) (literals s (SomeValue f c))
  unfolding literals terms All
  values-short f c h =
      let P : Literal → Type 0 = λ l. length (literal_bytes (signed_number s l)) ≤ 4 in
      let n : ℕ = suc (blank s) in
      each_in P (map (λ a. yes (K f c a)) (up_to n)) literal_of
      (map_in (λ t. All P (literal_of t)) (λ a. yes (K f c a)) (up_to n)
      (below_in (λ a. All P (literal_of (yes (K f c a)))) n (λ a l.
      let x = value-small s f c a (h, omega arith) in
      let y = k_small s ok in
      let z = decimal-short_three (number s (K f c a)) (omega arith) in
      let w = number-length (number s (K f c a)) in
      (omega arith, tt))))

  clause-short : (q : ClauseId) → IdIn s q → length (clause_line (clause s q)) ≤ 38
  unfolding terms
  clause-short (SomeValue f c) h =
      let e = length-map (up_to (suc (blank s))) (λ a. yes (K f c a)) in
      let n = length_from 0 (suc (blank s)) in
      let l = letters-few s ok in
      short_by (SomeValue f c) 9 4 (omega arith) (values-short f c h)
  clause-short (NotBoth f c a b) h = four (NotBoth f c a b) (omega arith) h
  clause-short (BlankTail f c) h = four (BlankTail f c) (omega arith) h
  clause-short (Start p) h = four (Start p) (omega arith) h
  clause-short (Left p i j) h = four (Left p i j) (omega arith) h
  clause-short (Right p i j) h = four (Right p i j) (omega arith) h
  clause-short (Both p i j) h = four (Both p i j) (omega arith) h
  clause-short (Match p i j a) h = four (Match p i j a) (omega arith) h
  clause-short (End p i j) h = four (End p i j) (omega arith) h
  clause-short (Zero r) h = four (Zero r) (omega arith) h
  clause-short (Add r k n d) h = four (Add r k n d) (omega arith) h
  clause-short (Bound r n) h = four (Bound r n) (omega arith) h

pub problem_short : (v c : ℕ) → v ≤ 9999 → c ≤ 99999 → length (problem_line v c) ≤ 17
problem_short v c h k = omega (arith, decimal-short_four v h, decimal-short c k, problem_length v c)

-- line 0, by the counts
pub first-line : (s : Sheet) (v c : ℕ) → v ≡ variable_count s → c ≡ length (ids s) → problem_line v c ≡ line s 0
unfolding line
first-line s v c e f = ap₂ problem_line (e ∙ sym (variable_count_lem s)) f

-- A line has at most 38 bytes, and so at most 80, the room that is made for one.
line_narrow : (s : Sheet) → InRange s → (n : ℕ) → n ≤ length (ids s) → length (line s n) ≤ 38
unfolding line
line_narrow s ok zero h =
    let v = variable_count_lem s in
    let a = variables-small s ok in
    let c = clause_count_lem s (well_formed s ok) in
    let b = clauses_small s ok in
    let l = problem_short (length (variables s)) (length (ids s)) (omega arith) (omega arith) in
    omega arith
line_narrow s ok (suc n) h = clause-short s ok (id_at s n) (at (IdIn s) (ids s) n none (ids_in s) (omega arith))

pub line-short : (s : Sheet) → InRange s → (n : ℕ) → n ≤ length (ids s) → length (line s n) ≤ 80
line-short s ok n h = let l = line_narrow s ok n h in omega arith

-- The size is the length of the file.
pub file_size_lem : (s : Sheet) → file_size s ≡ length (file s)
unfolding file file_size
file_size_lem s = sym (length_loop (line s) (suc (length (ids s))) (λ n. length (line s n)) (λ n l. refl))

-- The greatest size of a file, by the number of its lines, and of all.
pub file_narrow : (s : Sheet) → InRange s → length (file s) ≤ suc (length (ids s)) * 38
unfolding file
file_narrow s ok = each-short (line s) 38 (suc (length (ids s))) (λ i l. line_narrow s ok i (omega arith))

pub file-small : (s : Sheet) → InRange s → length (file s) ≤ most_file
file-small s ok =
    let c = clause_count_lem s (well_formed s ok) in
    let most = clauses_small s ok in
    let m = file_narrow s ok in
    let few : suc (length (ids s)) ≤ 47601 = omega arith in
    let same : 38 ≤ 38 = omega arith in
    let all = mul-le-mul few same in
    omega arith
