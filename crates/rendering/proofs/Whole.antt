-- The lines of the parts, one after another, are the model's file; the lines of a place, by the code of its value 0. Assumes nothing.
use mathlib.Core.Path.{◌≡◌, refl, sym, ap, ap₂, ◌∙◌}
use mathlib.Core.Bool.{Bool, true, false}
use mathlib.Core.List.{List, [], ◌∷◌, ◌++◌, append-nil}
use Prim.Native.Nat.{ℕ, suc, ◌+◌, ◌-◌, ◌*◌}
use native.Mathlib.Omega.{arith}
use lib.Dec.{ltb}
use lib.IntN.{pos, ◌+ℤ◌}
use lib.ListN.{length}
use Rattle.model.specs.Lists.{each, from, up_to, when}
use Rattle.model.specs.Sheet.{Sheet, limit, constraint}
use Rattle.model.specs.Range.{WellFormed}
use Rattle.formula.specs.Clause.{K, ClauseId, SomeValue, NotBoth, BlankTail, Start, Zero, Add, Bound, terms, place_ids, not_both_ids, least, spread, ids, none, blank, fields, left_cells, right_cells}
use Rattle.formula.specs.Count.{of_fields, of_equations, of_constraints, within}
use Rattle.formula.specs.Numbering.{number}
use Rattle.formula.specs.Dimacs.{line, file}
use Rattle.model.proofs.Lists.{each_append}
use Rattle.model.proofs.Keeping.{each_map, loop_same}
use Rattle.model.proofs.Pieces.{each_from, each-each, each_at}
use Rattle.formula.proofs.Totals.{field_part, location_part, row_part, equation_part, sum_part, step_part, bound_part, constraint_part, field_parts, equation_parts, constraint_parts, ids-are}
use Rattle.dimacs.proofs.Coded.{terms-line}
use Rattle.literals.specs.Name.{line_of}
use Rattle.locations.specs.Lines.{lines_of, location_lines, row_lines, equation_lines}
use Rattle.matching.specs.Codes.{unlike_line}
use Rattle.rendering.specs.Lines.{place_lines, field_lines, section_lines}
use Rattle.sums.specs.Lines.{sum_lines, step_lines, bound_line, bound_lines, constraint_lines}
use Rattle.rendering.specs.Codes.{pair_lines}
use Rattle.locations.proofs.Located.{value-number}

-- The lines of a place.
pair_codes : (s : Sheet) (f c first : ℕ) → first ≡ 2 * number s (K f c 0) → (a k : ℕ) → line_of s (NotBoth f c a (suc a + k)) ≡ unlike_line (first + 2 * a) first (a + 1) k
unfolding terms unlike_line
pair_codes s f c first e a k =
    let x : 2 * number s (K f c a) + 1 ≡ first + 2 * a + 1 = omega (arith, value-number s f c a) in
    let y : 2 * number s (K f c (suc a + k)) + 1 ≡ first + 2 * (a + 1 + k) + 1 = omega (arith, value-number s f c (suc a + k)) in
    sym (terms-line s (NotBoth f c a (suc a + k))) ∙ rw (x, y)

pairs-are : (s : Sheet) (f c first : ℕ) → first ≡ 2 * number s (K f c 0) → (a : ℕ) → lines_of s (not_both_ids s f c a) ≡ pair_lines first (blank s) a
pairs-are s f c first e a =
    let line : ℕ → List ℕ = λ b. line_of s (NotBoth f c a b) in
    let z : suc a ≡ suc a + 0 = omega arith in
    each_map (NotBoth f c a) (from (suc a) (blank s - a)) (line_of s)
    ∙ ap (λ m. each (from m (blank s - a)) line) z
    ∙ each_from line (suc a) 0 (blank s - a)
    ∙ loop_same (λ k. line (suc a + k)) (unlike_line (first + 2 * a) first (a + 1)) (blank s - a) (λ k _. pair_codes s f c first e a k)

-- one line; one line under a test
one_line : (s : Sheet) (q : ClauseId) → lines_of s (q ∷ []) ≡ line_of s q
unfolding each
one_line s q = append-nil (line_of s q)

when-line : (s : Sheet) (b : Bool) (q : ClauseId) → lines_of s (when b (q ∷ [])) ≡ when b (line_of s q)
unfolding each
when-line s true q = one_line s q
when-line s false q = refl

pub place-lines : (s : Sheet) (f c first l : ℕ) → first ≡ 2 * number s (K f c 0) → l ≡ blank s
    → place_lines s f c ≡ line_of s (SomeValue f c) ++ (each (up_to (suc l)) (pair_lines first l) ++ when (ltb (suc c) (limit s f)) (line_of s (BlankTail f c)))
unfolding place_lines place_ids
place-lines s f c first l e el =
    let pairs : List ClauseId = each (up_to (suc (blank s))) (not_both_ids s f c) in
    let tail : List ClauseId = when (ltb (suc c) (limit s f)) (BlankTail f c ∷ []) in
    rw el (each_append (line_of s) (SomeValue f c ∷ []) (pairs ++ tail)
    ∙ ap₂ ◌++◌ (one_line s (SomeValue f c))
    (each_append (line_of s) pairs tail
    ∙ ap₂ ◌++◌
    (each-each (up_to (suc (blank s))) (not_both_ids s f c) (line_of s)
    ∙ loop_same (λ a. lines_of s (not_both_ids s f c a)) (pair_lines first (blank s)) (suc (blank s)) (λ a _. pairs-are s f c first e a))
    (when-line s (ltb (suc c) (limit s f)) (BlankTail f c))))

-- The lines of each part are those of its clauses.
module _ (s : Sheet) where
  field_is : (f : ℕ) → lines_of s (field_part s f) ≡ field_lines s f
  unfolding field_lines place_lines
  field_is f = each-each (up_to (limit s f)) (place_ids s f) (line_of s)

  row_is : (p i : ℕ) → lines_of s (row_part s p i) ≡ row_lines s p i
  unfolding row_lines location_lines
  row_is p i = each-each (up_to (suc (length (right_cells s p)))) (location_part s p i) (line_of s)

  equation-is : (p : ℕ) → lines_of s (equation_part s p) ≡ equation_lines s p
  unfolding equation_lines
  equation-is p =
      let rows : List ClauseId = each (up_to (suc (length (left_cells s p)))) (row_part s p) in
      each_append (line_of s) (Start p ∷ []) rows
      ∙ ap₂ ◌++◌ (one_line s (Start p))
      (each-each (up_to (suc (length (left_cells s p)))) (row_part s p) (line_of s)
      ∙ loop_same (λ i. lines_of s (row_part s p i)) (row_lines s p) (suc (length (left_cells s p))) (λ i _. row_is p i))

  sum_is : (r k n : ℕ) → lines_of s (sum_part s r k n) ≡ sum_lines s r k n
  unfolding sum_lines
  sum_is r k n = each_map (Add r k (least s (constraint s r) k +ℤ pos n)) (up_to (suc (limit s k))) (line_of s)

  step_is : (r k : ℕ) → lines_of s (step_part s r k) ≡ step_lines s r k
  unfolding step_lines
  step_is r k =
      let count : ℕ = suc (spread s (constraint s r) k) in
      each-each (up_to count) (sum_part s r k) (line_of s)
      ∙ loop_same (λ n. lines_of s (sum_part s r k n)) (sum_lines s r k) count (λ n _. sum_is r k n)

  bound_is : (r : ℕ) → lines_of s (bound_part s r) ≡ bound_lines s r
  unfolding bound_lines bound_line
  bound_is r =
      let low : ℕ = within s (constraint s r) in
      let count : ℕ = suc (spread s (constraint s r) (fields s)) - low in
      let bound : ℕ → ClauseId = λ n. Bound r (least s (constraint s r) (fields s) +ℤ pos n) in
      let z : low ≡ low + 0 = omega arith in
      each_map bound (from low count) (line_of s)
      ∙ ap (λ m. each (from m count) (λ n. line_of s (bound n))) z
      ∙ each_from (λ n. line_of s (bound n)) low 0 count

  constraint-is : (r : ℕ) → lines_of s (constraint_part s r) ≡ constraint_lines s r
  unfolding constraint_lines
  constraint-is r =
      let steps : List ClauseId = each (up_to (fields s)) (step_part s r) in
      each_append (line_of s) (Zero r ∷ []) (steps ++ bound_part s r)
      ∙ ap₂ ◌++◌ (one_line s (Zero r))
      (each_append (line_of s) steps (bound_part s r)
      ∙ ap₂ ◌++◌
      (each-each (up_to (fields s)) (step_part s r) (line_of s)
      ∙ loop_same (λ k. lines_of s (step_part s r k)) (step_lines s r) (fields s) (λ k _. step_is r k))
      (bound_is r))

  -- The file.
  sections_are : WellFormed s → lines_of s (ids s) ≡ section_lines s of_fields ++ (section_lines s of_equations ++ section_lines s of_constraints)
  unfolding section_lines
  sections_are ok =
      let e : ℕ = length s.equations in
      let r : ℕ = length s.constraints in
      ap (lines_of s) (ids-are s ok)
      ∙ each_append (line_of s) (field_parts s) (equation_parts s ++ constraint_parts s)
      ∙ ap₂ ◌++◌
      (each-each (up_to (fields s)) (field_part s) (line_of s) ∙ loop_same (λ f. lines_of s (field_part s f)) (field_lines s) (fields s) (λ f _. field_is f))
      (each_append (line_of s) (equation_parts s) (constraint_parts s)
      ∙ ap₂ ◌++◌
      (each-each (up_to e) (equation_part s) (line_of s) ∙ loop_same (λ p. lines_of s (equation_part s p)) (equation_lines s) e (λ p _. equation-is p))
      (each-each (up_to r) (constraint_part s) (line_of s) ∙ loop_same (λ q. lines_of s (constraint_part s q)) (constraint_lines s) r (λ q _. constraint-is q)))

  later-lines : (n : ℕ) → each (up_to (suc n)) (line s) ≡ line s 0 ++ each (up_to n) (λ k. line s (suc k))
  unfolding each from
  later-lines n =
      ap (λ z. line s 0 ++ z)
      (each_from (line s) 1 0 n ∙ loop_same (λ k. line s (1 + k)) (λ k. line s (suc k)) n (λ k _. let e : 1 + k ≡ suc k = omega arith in ap (line s) e))

  pub file-is : WellFormed s → file s ≡ line s 0 ++ (section_lines s of_fields ++ (section_lines s of_equations ++ section_lines s of_constraints))
  unfolding file line
  file-is ok =
      later-lines (length (ids s))
      ∙ ap (λ z. line s 0 ++ z) (each_at (ids s) none (line_of s) ∙ sections_are ok)
