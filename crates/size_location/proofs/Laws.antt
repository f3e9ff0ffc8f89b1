-- How many bytes the lines of an equation have: its first line, and its rows. Assumes nothing.
use mathlib.Core.Path.{◌≡◌, sym, ap, ◌∙◌}
use Prim.Native.Nat.{ℕ, suc, ◌+◌, ◌*◌}
use native.Mathlib.Omega.{arith}
use lib.ListN.{length, length-append}
use Rattle.model.specs.Lists.{each, up_to}
use Rattle.model.specs.Sheet.{Sheet}
use Rattle.formula.specs.Clause.{S, Start, terms, left_cells}
use Rattle.formula.specs.Numbering.{number}
use Rattle.dimacs.specs.Codes.{code_size}
use Rattle.dimacs.proofs.Coded.{terms-line}
use Rattle.dimacs.proofs.Sizes.{line_one}
use Rattle.literals.specs.Name.{line_of}
use Rattle.locations.specs.Lines.{row_lines, equation_lines}

pub start_size : (s : Sheet) (p : ℕ) → length (line_of s (Start p)) ≡ code_size (2 * number s (S p 0 0)) + 2
unfolding terms
start_size s p = ap length (sym (terms-line s (Start p))) ∙ line_one (2 * number s (S p 0 0))

pub equation-lines : (s : Sheet) (p : ℕ)
    → length (equation_lines s p) ≡ code_size (2 * number s (S p 0 0)) + 2 + length (each (up_to (suc (length (left_cells s p)))) (row_lines s p))
unfolding equation_lines
equation-lines s p =
    let n = length-append (line_of s (Start p)) (each (up_to (suc (length (left_cells s p)))) (row_lines s p)) in
    omega (arith, start_size s p)
