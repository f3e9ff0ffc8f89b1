-- A coefficient by its sign; sums and their least as the code has them, in signed 16 bits. Assumes nothing.
use mathlib.Core.Path.{◌≡◌, refl, sym, ap, subst, ◌∙◌}
use mathlib.Core.Bool.{true, false}
use Prim.Native.Nat.{ℕ, zero, suc, ◌<◌, ◌≤◌}
use native.Mathlib.Omega.{arith}
use lib.Dec.{T}
use lib.IntN.{ℤ, pos, negsuc, nat_abs, ◌+ℤ◌, ◌-ℤ◌, ◌*ℤ◌}
use lib.Signed.{lt_z, non_neg}
use borrow.Author.Tests.{ltb-true, lt-ltb}
use lib.ListN.{length}
use mir.Syntax.{w16, w64}
use mir.Val.{Fits, SFits, to_z, of_z}
use mir.ValLaws.{to_z_pos}
use Rattle.model.specs.Sheet.{Sheet, constraint}
use Rattle.model.specs.Range.{InRange}
use Rattle.formula.specs.Clause.{lowest, least, spread, fields}
use Rattle.formula.specs.Numbering.{SumIn}
use Rattle.model.proofs.Lists.{never}
use Rattle.formula.proofs.Integers.{from-least, sum_in}
use Rattle.model.proofs.Sums.{abs_add}
use Rattle.formula.proofs.Small.{fields-few, least-small, spread-small}
use Rattle.scan.proofs.Machine.{small-fits, small_back}

pub negative-lowest : (c : ℤ) (n : ℕ) → lt_z c (pos 0) ≡ true → c *ℤ pos n ≡ lowest c n
negative-lowest (pos a) n h = let k = ltb-true a 0 h in absurd (omega arith)
negative-lowest (negsuc a) n h = refl

pub other_lowest : (c : ℤ) (n : ℕ) → lt_z c (pos 0) ≡ false → pos 0 ≡ lowest c n
other_lowest (pos a) n h = refl
other_lowest (negsuc a) n h = never (sym h)

pub other_sign : (c : ℤ) → lt_z c (pos 0) ≡ false → T (non_neg c)
other_sign (pos a) h = tt
other_sign (negsuc a) h = never (sym h)

pub negated_sign : (c : ℤ) → lt_z c (pos 0) ≡ true → T (non_neg (pos 0 -ℤ c))
negated_sign (pos a) h = let k = ltb-true a 0 h in absurd (omega arith)
negated_sign (negsuc a) h = tt

pub negated_abs : (c : ℤ) → nat_abs (pos 0 -ℤ c) ≡ nat_abs c
negated_abs (pos zero) = refl
negated_abs (pos (suc a)) = rw (lt-ltb 0 (suc a) (omega arith)) (omega arith)
negated_abs (negsuc a) = omega arith

-- A sum of the first k fields under constraint r, and what it is above the least.
module _ (s : Sheet) (ok : InRange s) (r k : ℕ) (h : r < length s.constraints) (few : k ≤ fields s) (n : ℤ) (inside : SumIn s (constraint s r) k n) where
  above : n -ℤ least s (constraint s r) k ≡ pos (nat_abs (n -ℤ least s (constraint s r) k))
  above = ap (λ z. z -ℤ least s (constraint s r) k) inside.0 ∙ from-least (least s (constraint s r) k) (nat_abs (n -ℤ least s (constraint s r) k))

  apart : nat_abs (n -ℤ least s (constraint s r) k) ≤ 192
  apart = omega (arith, inside.1, spread-small s ok r h k, fields-few s ok)

  least_fits : nat_abs (least s (constraint s r) k) ≤ 192
  least_fits = omega (arith, least-small s ok r h k, fields-few s ok)

  pub sum_fits : nat_abs n ≤ 384
  sum_fits =
      let m = nat_abs (n -ℤ least s (constraint s r) k) in
      let e = ap nat_abs inside.0 in
      omega (arith, abs_add (least s (constraint s r) k) (pos m), apart, least_fits)

  pub sum_back : to_z w16 (of_z w16 n) ≡ n
  sum_back = small_back w16 n (omega (arith, sum_fits))

  -- as the machine has it
  module _ (low : ℤ) (is : low ≡ least s (constraint s r) k) where
    difference : to_z w16 (of_z w16 n) -ℤ to_z w16 (of_z w16 low) ≡ n -ℤ least s (constraint s r) k
    difference = rw (sum_back, is, small_back w16 (least s (constraint s r) k) (omega (arith, least_fits)))

    pub offset_fits : SFits w16 (to_z w16 (of_z w16 n) -ℤ to_z w16 (of_z w16 low))
    offset_fits = rw difference (small-fits w16 (n -ℤ least s (constraint s r) k) (omega (arith, apart)))

    offset_back : to_z w16 (of_z w16 (to_z w16 (of_z w16 n) -ℤ to_z w16 (of_z w16 low))) ≡ n -ℤ least s (constraint s r) k
    offset_back = rw difference (small_back w16 (n -ℤ least s (constraint s r) k) (omega (arith, apart)))

    pub offset_cast : T (non_neg (to_z w16 (of_z w16 (to_z w16 (of_z w16 n) -ℤ to_z w16 (of_z w16 low))))) × Fits w64 (nat_abs (to_z w16 (of_z w16 (to_z w16 (of_z w16 n) -ℤ to_z w16 (of_z w16 low)))))
    offset_cast = rw offset_back (subst (λ z. T (non_neg z)) (sym above) tt, record { fits = omega (arith, apart) })

    pub offset_is : nat_abs (to_z w16 (of_z w16 n) -ℤ to_z w16 (of_z w16 low)) ≡ nat_abs (n -ℤ least s (constraint s r) k)
    offset_is = ap nat_abs difference

    pub offset_stored : nat_abs (to_z w16 (of_z w16 (to_z w16 (of_z w16 n) -ℤ to_z w16 (of_z w16 low)))) ≡ nat_abs (n -ℤ least s (constraint s r) k)
    offset_stored = ap nat_abs offset_back

-- A sum of the first k fields under constraint r, as the machine has it.
module _ (s : Sheet) (ok : InRange s) (r : ℕ) (hr : r < length s.constraints) (k : ℕ) (hk : k ≤ fields s) (n : ℕ) (hn : n ≤ spread s (constraint s r) k) where
  abbrev pub sum : ℤ
  sum = least s (constraint s r) k +ℤ pos n

  pub number-few : n ≤ 192
  number-few = omega (arith, spread-small s ok r hr k, fields-few s ok)

  pub number_fits : SFits w16 (pos n)
  number_fits = small-fits w16 (pos n) (omega (arith, number-few))

  module _ (low : ℤ) (is : low ≡ least s (constraint s r) k) where
    sum_is : to_z w16 (of_z w16 low) +ℤ to_z w16 n ≡ sum
    sum_is =
        rw (is, small_back w16 (least s (constraint s r) k) (omega (arith, least-small s ok r hr k, fields-few s ok)), to_z_pos w16 n (omega (arith, number-few)))

    pub add_fits : SFits w16 (to_z w16 (of_z w16 low) +ℤ to_z w16 n)
    add_fits = rw sum_is (small-fits w16 sum (omega (arith, sum_fits s ok r k hr hk sum (sum_in s (constraint s r) k n hn))))

    pub add_back : to_z w16 (of_z w16 (to_z w16 (of_z w16 low) +ℤ to_z w16 n)) ≡ sum
    add_back = rw sum_is (sum_back s ok r k hr hk sum (sum_in s (constraint s r) k n hn))

  pub read_back : (q : ℤ) → q ≡ sum → to_z w16 (of_z w16 q) ≡ sum
  read_back q e = rw e (sum_back s ok r k hr hk sum (sum_in s (constraint s r) k n hn))
