-- What a substitution in memory weighs under a constraint: coefficients are small, and so is the sum. Assumes nothing.
use mathlib.Core.Path.{◌≡◌, sym, ◌∙◌}
use Prim.Native.Nat.{ℕ, ◌+◌, ◌<◌, ◌≤◌}
use mathlib.Core.List.{List}
use native.Mathlib.Omega.{arith}
use lib.IntN.{ℤ, pos, nat_abs, ◌+ℤ◌, ◌*ℤ◌}
use lib.ListN.{length}
use mir.Syntax.{w8, w16}
use mir.Val.{SFits, to_z, of_z}
use Rattle.model.specs.Sheet.{sheet_of, constraint, coefficient}
use Rattle.model.specs.Range.{ConstraintIn}
use Rattle.model.specs.Word.{weight}
use Rattle.model.proofs.Lists.{at}
use Rattle.model.proofs.Sums.{coefficient-small, weight-small, weight-more, product_small}
use Rattle.scan.proofs.Machine.{small-fits, small_back}
use Rattle.fields.specs.declared.Field.{Field}
use Rattle.fields.specs.Memory.{field, meaning, Held}
use Rattle.words.proofs.Meaning.{short-at, field-whole, length_at}

module _ (b : List ℕ) (g : List Field) (ok : Held b g) (r : ℕ) (h : r < length (sheet_of b).constraints) where
  pub limited : ConstraintIn (length (sheet_of b).limits) (constraint (sheet_of b) r)
  limited = at _ (sheet_of b).constraints r _ ok.in_range.constraints_in h

  pub small_at : (f : ℕ) → nat_abs (coefficient (constraint (sheet_of b) r) f) ≤ 4
  small_at = coefficient-small (constraint (sheet_of b) r) (meaning b g) limited.small

  pub sum_small : (k : ℕ) → k ≤ length (sheet_of b).limits → nat_abs (weight (constraint (sheet_of b) r) (meaning b g) k) ≤ 192
  sum_small k l =
      let n = weight-small (constraint (sheet_of b) r) (meaning b g) limited.small k (λ f j. short-at b g ok f (omega arith)) in
      omega (arith, ok.in_range.counts_in.of_fields)

  -- field f's term, and the sum with it, as the code has them in signed 16 bits: x is the coefficient, y the length, t the sum before
  module _ (f : ℕ) (m : f < length (sheet_of b).limits) (x y t : ℤ) (read : x ≡ to_z w8 (of_z w8 (coefficient (constraint (sheet_of b) r) f))) (len : y ≡ pos (field g f).len) where
    abbrev term : ℤ
    term = to_z w16 (of_z w16 x) *ℤ to_z w16 (of_z w16 y)

    is : x ≡ coefficient (constraint (sheet_of b) r) f
    is = read ∙ small_back w8 (coefficient (constraint (sheet_of b) r) f) (omega (arith, small_at f))

    small : nat_abs x ≤ 4
    small = rw is (small_at f)

    short : (field g f).len ≤ 8
    short = (field-whole b g ok f m).short

    product : term ≡ x *ℤ pos (field g f).len
    product = rw (len, small_back w16 x (omega (arith, small)), small_back w16 (pos (field g f).len) (omega (arith, short)))

    pub product_fits : SFits w16 term
    product_fits = rw product (small-fits w16 (x *ℤ pos (field g f).len) (omega (arith, product_small x (field g f).len small short)))

    product_back : to_z w16 (of_z w16 term) ≡ x *ℤ pos (field g f).len
    product_back = rw product (small_back w16 (x *ℤ pos (field g f).len) (omega (arith, product_small x (field g f).len small short)))

    module _ (sum : t ≡ weight (constraint (sheet_of b) r) (meaning b g) f) where
      next : t +ℤ to_z w16 (of_z w16 term) ≡ weight (constraint (sheet_of b) r) (meaning b g) (f + 1)
      next = rw (product_back, sum, is, ← length_at b g ok f m) (sym (weight-more (constraint (sheet_of b) r) (meaning b g) f))

      pub sum_fits : SFits w16 (t +ℤ to_z w16 (of_z w16 term))
      sum_fits = rw next (small-fits w16 (weight (constraint (sheet_of b) r) (meaning b g) (f + 1)) (omega (arith, sum_small (f + 1) (omega arith))))

      pub sum_back : to_z w16 (of_z w16 (t +ℤ to_z w16 (of_z w16 term))) ≡ weight (constraint (sheet_of b) r) (meaning b g) (f + 1)
      sum_back = rw next (small_back w16 (weight (constraint (sheet_of b) r) (meaning b g) (f + 1)) (omega (arith, sum_small (f + 1) (omega arith))))
