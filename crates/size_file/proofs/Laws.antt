-- How many bytes the lines of a place have, and the file as line 0 and its sections. Assumes nothing.
use mathlib.Core.Path.{◌≡◌, sym, ap, ◌∙◌}
use mathlib.Core.Bool.{Bool, true, false}
use mathlib.Core.List.{List, ◌++◌}
use Prim.Native.Nat.{ℕ, suc, ◌+◌, ◌*◌, ◌<◌, ◌≤◌}
use native.Mathlib.Omega.{arith}
use lib.Dec.{ltb}
use lib.ListN.{length, length-append}
use borrow.Author.Tests.{lt-ltb, le-ltb}
use Rattle.model.specs.Lists.{each, up_to, when, total}
use Rattle.model.specs.Sheet.{Sheet, limit}
use Rattle.model.specs.Range.{InRange}
use Rattle.formula.specs.Clause.{K, Term, yes, SomeValue, BlankTail, terms, blank, ids}
use Rattle.formula.specs.Count.{of_fields, of_equations, of_constraints}
use Rattle.formula.specs.Numbering.{number, variable_count}
use Rattle.formula.specs.Dimacs.{problem_line, line, file_size}
use Rattle.model.proofs.Keeping.{map-map, map_below}
use Rattle.model.proofs.Templates.{well_formed}
use Rattle.formula.proofs.Lines.{first-line, file_size_lem}
use Rattle.dimacs.specs.Codes.{codes_line, code_size, term_code}
use Rattle.dimacs.proofs.Coded.{terms-line}
use Rattle.dimacs.proofs.Sizes.{line_two, line_codes}
use Rattle.literals.specs.Name.{line_of}
use Rattle.locations.proofs.Located.{value-number}
use Rattle.rendering.specs.Lines.{place_lines, section_lines}
use Rattle.rendering.specs.Codes.{pair_lines}
use Rattle.rendering.proofs.Whole.{place-lines, file-is}

module _ (s : Sheet) (f c : ℕ) where
  -- that a place has a value
  some_size : (first l : ℕ) → first ≡ 2 * number s (K f c 0) → l ≡ blank s → length (line_of s (SomeValue f c)) ≡ total (l + 1) (λ a. code_size (first + 2 * a)) + 2
  unfolding terms
  some_size first l e el =
      let n : suc (blank s) ≡ l + 1 = omega arith in
      let value : ℕ → Term = λ a. yes (K f c a) in
      ap length (sym (terms-line s (SomeValue f c)))
      ∙ ap (λ (codes : List ℕ). length (codes_line codes)) (map-map (term_code s) value (up_to (suc (blank s))) ∙ map_below (λ a. term_code s (value a)) (λ a. first + 2 * a) (suc (blank s)) (λ a _. omega (arith, value-number s f c a)))
      ∙ line_codes (λ a. first + 2 * a) (suc (blank s))
      ∙ ap (λ k. total k (λ a. code_size (first + 2 * a)) + 2) n

  -- that a blank is followed by a blank
  tail_size : length (line_of s (BlankTail f c)) ≡ code_size (2 * number s (K f c (blank s)) + 1) + code_size (2 * number s (K f (suc c) (blank s))) + 2
  unfolding terms
  tail_size =
      ap length (sym (terms-line s (BlankTail f c))) ∙ line_two (2 * number s (K f c (blank s)) + 1) (2 * number s (K f (suc c) (blank s)))

  module _ (first l : ℕ) (e : first ≡ 2 * number s (K f c 0)) (el : l ≡ blank s) where
    by_tail : (b : Bool) → ltb (suc c) (limit s f) ≡ b → length (place_lines s f c) ≡ total (l + 1) (λ a. code_size (first + 2 * a)) + 2 + length (each (up_to (suc l)) (pair_lines first l)) + length (when b (line_of s (BlankTail f c)))
    by_tail b t =
        let pairs : List ℕ = each (up_to (suc l)) (pair_lines first l) in
        let tail : List ℕ = when b (line_of s (BlankTail f c)) in
        let all = ap length (place-lines s f c first l e el ∙ ap (λ z. line_of s (SomeValue f c) ++ (pairs ++ when z (line_of s (BlankTail f c)))) t) in
        let a = length-append (line_of s (SomeValue f c)) (pairs ++ tail) in
        let d = length-append pairs tail in
        omega (arith, some_size first l e el)

    pub not_last_size : suc c < limit s f → length (place_lines s f c)
        ≡ total (l + 1) (λ a. code_size (first + 2 * a)) + 2 + length (each (up_to (suc l)) (pair_lines first l))
        + code_size (2 * number s (K f c (blank s)) + 1) + code_size (2 * number s (K f (suc c) (blank s))) + 2
    not_last_size h = omega (arith, by_tail true (lt-ltb (suc c) (limit s f) h), tail_size)

    pub last_size : limit s f ≤ suc c → length (place_lines s f c) ≡ total (l + 1) (λ a. code_size (first + 2 * a)) + 2 + length (each (up_to (suc l)) (pair_lines first l))
    last_size h = let all = by_tail false (le-ltb (suc c) (limit s f) h) in omega arith

-- The file.
pub size_sections : (s : Sheet) → InRange s → (v c : ℕ) → v ≡ variable_count s → c ≡ length (ids s)
    → file_size s ≡ length (problem_line v c) + length (section_lines s of_fields) + length (section_lines s of_equations) + length (section_lines s of_constraints)
size_sections s ok v c e f =
    let all = file_size_lem s ∙ ap length (file-is s (well_formed s ok)) in
    let first = ap length (first-line s v c e f) in
    let x = length-append (line s 0) (section_lines s of_fields ++ (section_lines s of_equations ++ section_lines s of_constraints)) in
    let y = length-append (section_lines s of_fields) (section_lines s of_equations ++ section_lines s of_constraints) in
    let z = length-append (section_lines s of_equations) (section_lines s of_constraints) in
    omega arith
