-- The lines of a constraint by the codes of their literals, each worked out from a few codes: those of K(f,c,0) and of T(r,k,s) for the least s.
-- `Summed.antt` of the proofs shows that these are the lines of the model's clauses.
use Rattle.std.specs.Prelude.{◌≡◌, List, [], ◌∷◌, ℕ, ◌+◌, ◌-◌, ◌*◌, ◌≤◌, ltb, ℤ, pos, nat_abs, ◌+ℤ◌, ◌-ℤ◌, ◌*ℤ◌}
use Rattle.model.specs.Lists.{pick}
use Rattle.dimacs.specs.Codes.{codes_line, most_code}

-- Field k of length d is added to a sum: `here` is the code of that sum's negation, `blank` that of K(k,0,L), which the others of the field are
-- `stride` apart; `first` is the code of the least sum that follows, `low` that sum; n is the sum, c the coefficient.
unfoldable pub add_line : ℕ → ℕ → ℕ → ℕ → ℕ → ℤ → ℤ → ℤ → ℕ → List ℕ
add_line here blank stride limit first low c n d =
    codes_line
    (here
    ∷ pick (ltb 0 d) (blank + stride * (d - 1)) 0
    ∷ pick (ltb d limit) (blank + stride * d + 1) 0
    ∷ (first + 2 * nat_abs (n +ℤ c *ℤ pos d -ℤ low))
    ∷ [])

-- what is asked of these numbers: that all sums are small, and that the last of them is not below `low`
pub record Added (first : ℕ) (low c n : ℤ) (d : ℕ) : Type 0 where
  pub at_first : first ≤ most_code
  pub length_few : d ≤ 8
  pub coefficient_few : nat_abs c ≤ 4
  pub low_few : nat_abs low ≤ 384
  pub sum_few : nat_abs n ≤ 384
  pub above : n +ℤ c *ℤ pos d -ℤ low ≡ pos (nat_abs (n +ℤ c *ℤ pos d -ℤ low))
  pub offset_few : nat_abs (n +ℤ c *ℤ pos d -ℤ low) ≤ 384
