-- How many bytes a literal and a line have, by codes. Assumes nothing.
use mathlib.Core.Path.{◌≡◌, refl, ap, ◌∙◌}
use mathlib.Core.List.{List, [], ◌∷◌, ◌++◌, map}
use Prim.Native.Nat.{ℕ, ◌+◌, ◌/◌, ◌%◌}
use native.Mathlib.Omega.{arith}
use lib.Dec.{eqb}
use lib.ListN.{length, length-append}
use borrow.Author.Tests.{eqb-true, eqb-false}
use Rattle.model.specs.Lists.{each, up_to, total}
use Rattle.formula.specs.Dimacs.{decimal}
use Rattle.model.proofs.Lists.{by_test}
use Rattle.model.proofs.Keeping.{each_map, length_loop}
use Rattle.formula.proofs.Lines.{number-length, ended-length}
use Rattle.dimacs.specs.Codes.{code_bytes, codes_line, code_size, line_size}
use Rattle.dimacs.proofs.Laws.{code_none, code_even, code_odd}

-- a literal: nothing for none; else a minus where the code is odd, the figures, a space
pub no_size : code_size 0 ≡ 0
no_size = ap length code_none

pub code_size_lem : (code : ℕ) → (code ≡ 0 → ⊥) → code_size code ≡ code % 2 + length (decimal (code / 2)) + 1
code_size_lem code some = by_test (eqb (code % 2) 0)
    (λ t.
    let e = eqb-true (code % 2) 0 t in
    let a = ap length (code_even code some e) in
    omega (arith, number-length (code / 2)))
    (λ t.
    let a = ap length (code_odd code some (eqb-false (code % 2) 0 t)) in
    let one : code % 2 ≡ 1 = odd code (eqb-false (code % 2) 0 t) in
    omega (arith, number-length (code / 2)))
  where
    odd : (n : ℕ) → (n % 2 ≡ 0 → ⊥) → n % 2 ≡ 1
    odd n h = omega arith

-- a line: each of its literals, and two bytes more
pub line-end : line_size [] ≡ 2
unfolding codes_line each
line-end = refl

pub line_literal : (code : ℕ) (codes : List ℕ) → line_size (code ∷ codes) ≡ code_size code + line_size codes
unfolding codes_line each
line_literal code codes =
    let b = length-append (code_bytes code) (each codes code_bytes) in
    omega (arith, ended-length (code_bytes code ++ each codes code_bytes), ended-length (each codes code_bytes))

-- of codes that are counted from 0 on
pub line_codes : (g : ℕ → ℕ) (n : ℕ) → line_size (map g (up_to n)) ≡ total n (λ a. code_size (g a)) + 2
unfolding codes_line
line_codes g n =
    ended-length (each (map g (up_to n)) code_bytes)
    ∙ ap (λ z. z + 2) (ap length (each_map g (up_to n) code_bytes) ∙ length_loop (λ a. code_bytes (g a)) n (λ a. code_size (g a)) (λ a l. refl))

-- lines of one, two, three and four codes
pub line_one : (a : ℕ) → line_size (a ∷ []) ≡ code_size a + 2
line_one a = let x = line_literal a [] in let e = line-end in omega arith

pub line_two : (a b : ℕ) → line_size (a ∷ b ∷ []) ≡ code_size a + code_size b + 2
line_two a b = let x = line_literal a (b ∷ []) in let y = line_one b in omega arith

pub line_three : (a b c : ℕ) → line_size (a ∷ b ∷ c ∷ []) ≡ code_size a + code_size b + code_size c + 2
line_three a b c = let x = line_literal a (b ∷ c ∷ []) in let y = line_two b c in omega arith

pub line_four : (a b c d : ℕ) → line_size (a ∷ b ∷ c ∷ d ∷ []) ≡ code_size a + code_size b + code_size c + code_size d + 2
line_four a b c d = let x = line_literal a (b ∷ c ∷ d ∷ []) in let y = line_three b c d in omega arith
