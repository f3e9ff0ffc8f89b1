-- Two's complement: a number of so many bits and the signed number that it stands for give each other back.
-- Stated over the half, so that bytes and 16 bits are two instances. Assumes nothing.
use mathlib.Core.Path.{◌≡◌, ap, ◌∙◌}
use Prim.Native.Nat.{ℕ, zero, suc, ◌+◌, ◌-◌, ◌/◌, ◌%◌, ◌<◌, ◌≤◌}
use native.Mathlib.Omega.{arith}
use lib.Dec.{ltb}
use lib.IntN.{ℤ, pos, negsuc, nat_abs, ◌-ℤ◌}
use borrow.Author.Tests.{lt-ltb, le-ltb, ltb-true, ltb-false}
use Rattle.model.specs.Sheet.{signed, unsigned, sixteen}
use Rattle.model.specs.Range.{Signed16}
use Rattle.model.proofs.Lists.{by_test}

-- the signed numbers of so many bits
abbrev pub Signed : ℕ → ℤ → Type 0
Signed half (pos n) = n < half
Signed half (negsuc n) = suc n ≤ half

-- a difference below 0
pub less : (n w : ℕ) → n < w → pos n -ℤ pos w ≡ negsuc (w - suc n)
less n zero h = absurd (omega arith)
less n (suc w) h = simp (lt-ltb n (suc w) h)

module _ (half : ℕ) where
  pub signed_low : (n : ℕ) → n < half → signed half n ≡ pos n
  unfolding signed
  signed_low n h = simp (lt-ltb n half h)

  pub signed_high : (n : ℕ) → half ≤ n → n < half + half → signed half n ≡ negsuc (half + half - suc n)
  unfolding signed
  signed_high n h g = simp (le-ltb n half h) (less n (half + half) g)

  pub unsigned_signed : (n : ℕ) → n < half + half → unsigned half (signed half n) ≡ n
  unfolding unsigned
  unsigned_signed n h =
      by_test (ltb n half)
      (λ e. rw (signed_low n (ltb-true n half e)))
      (λ e. rw (signed_high n (ltb-false n half e) h) (omega arith))

  pub signed-unsigned : (z : ℤ) → Signed half z → signed half (unsigned half z) ≡ z
  unfolding unsigned
  signed-unsigned (pos n) h = signed_low n h
  signed-unsigned (negsuc n) h =
      signed_high (half + half - suc n) (omega arith) (omega arith) ∙ ap negsuc (omega arith)

  pub signed_in : (n : ℕ) → n < half + half → Signed half (signed half n)
  signed_in n h =
      by_test (ltb n half)
      (λ e. let g = ltb-true n half e in rw (signed_low n g) g)
      (λ e. let g = ltb-false n half e in rw (signed_high n g h) (omega arith))

-- a number of two bytes
pub sixteen_bytes : (n : ℕ) → sixteen (n / 256) (n % 256) ≡ n
sixteen_bytes n = omega arith

pub high_byte : (high low : ℕ) → low < 256 → sixteen high low / 256 ≡ high
high_byte high low h = omega arith

pub low_byte : (high low : ℕ) → low < 256 → sixteen high low % 256 ≡ low
low_byte high low h = omega arith

pub signed16_out : (z : ℤ) → Signed16 z → Signed 32768 z
signed16_out (pos n) h = omega arith
signed16_out (negsuc n) h = omega arith

pub signed16_in : (z : ℤ) → Signed 32768 z → Signed16 z
signed16_in (pos n) h = omega arith
signed16_in (negsuc n) h = omega arith

-- a number of small magnitude is one; so a coefficient is a byte's signed number
pub abs_signed : (half : ℕ) (z : ℤ) → nat_abs z < half → Signed half z
abs_signed half (pos n) h = h
abs_signed half (negsuc n) h = omega arith

pub small_signed : (z : ℤ) → nat_abs z ≤ 4 → Signed 128 z
small_signed z h = abs_signed 128 z (omega arith)
