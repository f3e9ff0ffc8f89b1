-- How many bytes the lines of a location have, by what stands on its two sides. Assumes nothing.
use mathlib.Core.Path.{◌≡◌, refl}
use mathlib.Core.List.{List, [], ◌∷◌, ◌++◌}
use Prim.Native.Nat.{ℕ, ◌+◌, ◌-◌, ◌*◌}
use native.Mathlib.Omega.{arith}
use lib.ListN.{length, length-append}
use borrow.Author.Tests.{eq-eqb, ne_eqb}
use Rattle.model.specs.Lists.{each, up_to}
use Rattle.formula.specs.Kind.{used, at_letter, at_field}
use Rattle.dimacs.specs.Codes.{codes_line, code_size}
use Rattle.dimacs.proofs.Sizes.{line_one, line_two, line_three, line_four}
use Rattle.matching.specs.Codes.{unlike_line, match_line}
use Rattle.crossings.specs.Codes.{past_lines, letter_lines, open_lines}

module _ (l down here y : ℕ) where
  -- what every line of it has: that the location is not reached, and the line's end
  abbrev common : ℕ
  common = code_size (here + 1) + 2

  pub past-field : length (past_lines l here at_field y) ≡ common + code_size (y + 2 * l + 1) + code_size (here + 2) + common + code_size (y + 2 * l)
  past-field =
      let c : List ℕ = (here + 1) ∷ (y + 2 * l + 1) ∷ (here + 2) ∷ [] in
      let f : List ℕ = (here + 1) ∷ (y + 2 * l) ∷ [] in
      let n = length-append (codes_line c) (codes_line f) in
      omega (arith, line_three (here + 1) (y + 2 * l + 1) (here + 2), line_two (here + 1) (y + 2 * l))

  pub letter-same : (a : ℕ) → length (letter_lines l down here a (at_letter a) y) ≡ common + code_size (here + down + 2)
  letter-same a = rw (eq-eqb a a refl)
      (let n = length-append (codes_line ((here + 1) ∷ (here + down + 2) ∷ [])) [] in
      omega (arith, line_two (here + 1) (here + down + 2)))

  pub letter_other : (a b : ℕ) → (a ≡ b → ⊥) → length (letter_lines l down here a (at_letter b) y) ≡ common + code_size (here + down + 2) + common
  letter_other a b ne = rw (ne_eqb a b ne)
      (let n = length-append (codes_line ((here + 1) ∷ (here + down + 2) ∷ [])) (codes_line ((here + 1) ∷ [])) in
      omega (arith, line_two (here + 1) (here + down + 2), line_one (here + 1)))

  pub letter-field : (a : ℕ) → length (letter_lines l down here a at_field y)
      ≡ common + code_size (y + 2 * l + 1) + code_size (here + 2)
      + (common + code_size (y + 2 * l) + code_size (here + down + 2))
      + common + code_size (y + 2 * l) + code_size (y + 2 * a)
  letter-field a =
      let c : List ℕ = codes_line ((here + 1) ∷ (y + 2 * l + 1) ∷ (here + 2) ∷ []) in
      let d : List ℕ = codes_line ((here + 1) ∷ (y + 2 * l) ∷ (here + down + 2) ∷ []) in
      let e : List ℕ = codes_line ((here + 1) ∷ (y + 2 * l) ∷ (y + 2 * a) ∷ []) in
      let n = length-append c (d ++ e) in
      let m = length-append d e in
      omega (arith, line_three (here + 1) (y + 2 * l + 1) (here + 2), line_three (here + 1) (y + 2 * l) (here + down + 2), line_three (here + 1) (y + 2 * l) (y + 2 * a))

  module _ (x : ℕ) where
    -- B
    abbrev first : List ℕ
    first = codes_line ((here + 1) ∷ (x + 2 * l + 1) ∷ (here + down) ∷ [])

    abbrev first_size : ℕ
    first_size = common + code_size (x + 2 * l + 1) + code_size (here + down)

    pub open_used : length (open_lines l down here x used y) ≡ first_size + common + code_size (x + 2 * l)
    open_used =
        let n = length-append first (codes_line ((here + 1) ∷ (x + 2 * l) ∷ [])) in
        omega (arith, line_three (here + 1) (x + 2 * l + 1) (here + down), line_two (here + 1) (x + 2 * l))

    pub open_letter : (b : ℕ) → length (open_lines l down here x (at_letter b) y)
        ≡ first_size
        + (common + code_size (x + 2 * l) + code_size (here + down + 2))
        + length (each (up_to b) (unlike_line here x 0))
        + length (each (up_to (l - b - 1)) (unlike_line here x (b + 1)))
    open_letter b =
        let d : List ℕ = codes_line ((here + 1) ∷ (x + 2 * l) ∷ (here + down + 2) ∷ []) in
        let e : List ℕ = each (up_to b) (unlike_line here x 0) in
        let g : List ℕ = each (up_to (l - b - 1)) (unlike_line here x (b + 1)) in
        let n = length-append first (d ++ (e ++ g)) in
        let m = length-append d (e ++ g) in
        let k = length-append e g in
        omega (arith, line_three (here + 1) (x + 2 * l + 1) (here + down), line_three (here + 1) (x + 2 * l) (here + down + 2))

    pub open_field_lem : length (open_lines l down here x at_field y)
        ≡ first_size
        + (common + code_size (x + 2 * l) + code_size (y + 2 * l + 1) + code_size (here + 2))
        + (common + code_size (x + 2 * l) + code_size (y + 2 * l) + code_size (here + down + 2))
        + length (each (up_to l) (match_line l here x y))
    open_field_lem =
        let c : List ℕ = codes_line ((here + 1) ∷ (x + 2 * l) ∷ (y + 2 * l + 1) ∷ (here + 2) ∷ []) in
        let d : List ℕ = codes_line ((here + 1) ∷ (x + 2 * l) ∷ (y + 2 * l) ∷ (here + down + 2) ∷ []) in
        let e : List ℕ = each (up_to l) (match_line l here x y) in
        let n = length-append first (c ++ (d ++ e)) in
        let m = length-append c (d ++ e) in
        let k = length-append d e in
        omega (arith, line_three (here + 1) (x + 2 * l + 1) (here + down), line_four (here + 1) (x + 2 * l) (y + 2 * l + 1) (here + 2), line_four (here + 1) (x + 2 * l) (y + 2 * l) (here + down + 2))
