-- Of which pieces a number in decimal and a literal's bytes are made. Assumes nothing.
use mathlib.Core.Path.{◌≡◌, refl, sym, ap, ap₂, subst, ◌∙◌}
use mathlib.Core.List.{List, [], ◌∷◌, ◌++◌}
use Prim.Native.Nat.{ℕ, ◌+◌, ◌/◌, ◌%◌, ◌<◌, ◌≤◌}
use native.Mathlib.Omega.{arith}
use lib.ListN.{length, get_or, take, length-append}
use borrow.Author.Tests.{eq-eqb, ne_eqb}
use Rattle.model.specs.Lists.{each, Puts}
use Rattle.formula.specs.Dimacs.{decimal}
use Rattle.model.proofs.Lists.{each_next, each_part}
use Rattle.model.proofs.Seams.{nothing}
use Rattle.model.proofs.Writing.{joined, Writing, begin}
use Rattle.formula.proofs.Figures.{decimal_one, decimal-more}
use Rattle.dimacs.specs.Codes.{code_bytes}

-- Numbers by their figures: one, two, three or four, and more.
abbrev figure_of : ℕ → List ℕ
figure_of n = (48 + n) ∷ []

decimal_two : (n : ℕ) → 10 ≤ n → n < 100 → decimal n ≡ figure_of (n / 10) ++ figure_of (n % 10)
decimal_two n h l = decimal-more n h ∙ ap (λ z. z ++ figure_of (n % 10)) (decimal_one (n / 10) (omega arith))

decimal_three : (n : ℕ) → 100 ≤ n → n < 1000 → decimal n ≡ figure_of (n / 100) ++ (figure_of (n / 10 % 10) ++ figure_of (n % 10))
decimal_three n h l =
    let e : n / 10 / 10 ≡ n / 100 = omega arith in
    decimal-more n (omega arith)
    ∙ ap (λ z. z ++ figure_of (n % 10)) (decimal_two (n / 10) (omega arith) (omega arith) ∙ ap (λ k. figure_of k ++ figure_of (n / 10 % 10)) e)

decimal_four : (n : ℕ) → 1000 ≤ n → n < 10000 → decimal n ≡ figure_of (n / 1000) ++ (figure_of (n / 100 % 10) ++ (figure_of (n / 10 % 10) ++ figure_of (n % 10)))
decimal_four n h l =
    let e : n / 10 / 100 ≡ n / 1000 = omega arith in
    let f : n / 10 / 10 % 10 ≡ n / 100 % 10 = omega arith in
    decimal-more n (omega arith)
    ∙ ap (λ z. z ++ figure_of (n % 10))
    (decimal_three (n / 10) (omega arith) (omega arith) ∙ ap₂ (λ j k. figure_of j ++ (figure_of k ++ figure_of (n / 10 % 10))) e f)

module _ (s : List ℕ) (at n : ℕ) (room : at + length (decimal n) ≤ length s) where
  pub one_figure : n < 10 → Writing s at (decimal n) (figure_of n) [] s at
  unfolding joined
  one_figure h = begin s at _ _ [] (decimal_one n h) room

  pub two_figures : 10 ≤ n → n < 100 → Writing s at (decimal n) (figure_of (n / 10)) (figure_of (n % 10) ∷ []) s at
  unfolding joined
  two_figures h l = begin s at _ _ _ (decimal_two n h l) room

  pub three_figures : 100 ≤ n → n < 1000 → Writing s at (decimal n) (figure_of (n / 100)) (figure_of (n / 10 % 10) ∷ figure_of (n % 10) ∷ []) s at
  unfolding joined
  three_figures h l = begin s at _ _ _ (decimal_three n h l) room

  pub four_figures : 1000 ≤ n → n < 10000
      → Writing s at (decimal n) (figure_of (n / 1000)) (figure_of (n / 100 % 10) ∷ figure_of (n / 10 % 10) ∷ figure_of (n % 10) ∷ []) s at
  unfolding joined
  four_figures h l = begin s at _ _ _ (decimal_four n h l) room

  pub more_figures : 10 ≤ n → Writing s at (decimal n) (decimal (n / 10)) (figure_of (n % 10) ∷ []) s at
  unfolding joined
  more_figures h = begin s at _ _ _ (decimal-more n h) room

-- the bytes of a code
pub code_none : code_bytes 0 ≡ []
unfolding code_bytes
code_none = refl

module _ (code : ℕ) (some : code ≡ 0 → ⊥) where
  pub code_even : code % 2 ≡ 0 → code_bytes code ≡ decimal (code / 2) ++ (32 ∷ [])
  unfolding code_bytes
  code_even h = simp (ne_eqb code 0 some, eq-eqb (code % 2) 0 h)

  pub code_odd : (code % 2 ≡ 0 → ⊥) → code_bytes code ≡ (45 ∷ []) ++ (decimal (code / 2) ++ (32 ∷ []))
  unfolding code_bytes
  code_odd h = simp (ne_eqb code 0 some, ne_eqb (code % 2) 0 h)

module _ (s : List ℕ) (at code : ℕ) where
  pub no_literal : code ≡ 0 → Puts s at (code_bytes code) s at
  no_literal e =
      let w = nothing s at in
      subst (λ p. Puts s at p s at) (sym (ap code_bytes e ∙ code_none)) (w.past, w.holds)

  module _ (some : code ≡ 0 → ⊥) (room : at + length (code_bytes code) ≤ length s) where
    pub even_literal : code % 2 ≡ 0 → Writing s at (code_bytes code) (decimal (code / 2)) ((32 ∷ []) ∷ []) s at
    unfolding joined
    even_literal h = begin s at _ _ _ (code_even code some h) room

    pub odd_literal : (code % 2 ≡ 0 → ⊥) → Writing s at (code_bytes code) (45 ∷ []) (decimal (code / 2) ∷ (32 ∷ []) ∷ []) s at
    unfolding joined
    odd_literal h = begin s at _ _ _ (code_odd code some h) room

-- of the first i literals and the next one no more is written than of all
pub codes_room : (codes : List ℕ) (i : ℕ) → i < length codes
    → length (each (take i codes) code_bytes) + length (code_bytes (get_or codes i 0)) ≤ length (each codes code_bytes)
codes_room codes i h =
    let e = ap length (each_next code_bytes codes i 0 h) in
    let n = length-append (each (take i codes) code_bytes) (code_bytes (get_or codes i 0)) in
    let part = each_part code_bytes codes (i + 1) in
    omega arith
