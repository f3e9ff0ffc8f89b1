-- The model's words on bytes against the library's: the start of a list, two lists that are the same, the first byte of a kind, bytes as signed
-- numbers, the bytes of a range, and a part of a slice. Assumes nothing.
use mathlib.Core.Path.{◌≡◌, refl, sym, ap, ◌∙◌}
use mathlib.Core.Bool.{Bool, true, ◌&&◌}
use mathlib.Core.List.{List, [], ◌∷◌}
use Prim.Native.Nat.{ℕ, zero, suc, ◌+◌, ◌-◌, ◌^◌, ◌<◌, ◌≤◌}
use native.Mathlib.Omega.{arith}
use lib.Dec.{eqb, ltb}
use lib.Pointwise.{pointwise}
use mir.Syntax.{Width, w8, w16}
use mir.Val.{to_z, of_z, hbits, bits}
use mir.ValLaws.{to_z_pos, to_z-neg}
use borrow.Author.Tests.{eq-eqb, ne_eqb}
use Rattle.std.proofs.Common.{rules, false, Option, Some, nat_cmp}
use Rattle.std.specs.declared.ops.RangeInclusive.{RangeInclusive}
use Rattle.std.specs.Range.{range_inclusive_contains, range_inclusive_start, range_inclusive_end, range_inclusive_exhausted}
use borrow.Author.Tests.{tests}
use Rattle.std.specs.Option.{MatchOption, unwrap_or}
use Rattle.std.specs.List as std
use Rattle.std.specs.List.{AllWithin, HoldsAt, slice_range}
use Rattle.std.proofs.lemmas.Iterator.{index_from_first}
use native.Mathlib.Numerals.{add-one}
use lib.ListN.{length, get_or, take, drop, drop_of_length-le}
use lib.Seq.{drop-cons}
use borrow.Author.Tests.{ltb-true, ltb-false, eqb-true, eqb-false}
use Rattle.model.proofs.Lists.{by_test}
use Rattle.model.proofs.Marks.{mark-same, mark-differs, mark-short, mark-whole}
use Rattle.scan.proofs.Machine.{stored}
use Rattle.model.specs.Lists.{between, starts_with, same, span}
use Rattle.model.specs.Sheet.{sixteen, signed, signed8, signed16}
use Rattle.model.proofs.Signed.{signed_low, signed_high}

pub same-slices : (xs ys : List ℕ) → pointwise eqb xs ys ≡ same xs ys
unfolding same
same-slices [] [] = refl
same-slices [] (y ∷ ys) = refl
same-slices (x ∷ xs) [] = refl
same-slices (x ∷ xs) (y ∷ ys) = ap (λ b. eqb x y && b) (same-slices xs ys)

-- The two lists that `starts_with` compares, from offset i on, with k bytes of the mark to come: one byte after the other, as the model decides.
module _ (p s : List ℕ) where
  compared : (k i : ℕ) → i < length p → i < length s
      → pointwise eqb (drop i p) (take (suc k) (drop i s)) ≡ (eqb (get_or p i 0) (get_or s i 0) && pointwise eqb (drop (i + 1) p) (take k (drop (i + 1) s)))
  compared k i a b = rw (add-one, drop-cons p i 0, drop-cons s i 0) refl

  cut_off : (k i : ℕ) → i < length p → length s ≤ i → pointwise eqb (drop i p) (take (suc k) (drop i s)) ≡ false
  cut_off k i a b = rw (drop_of_length-le s b, drop-cons p i 0) refl

  passed-over : (k i : ℕ) → length p ≤ i → pointwise eqb (drop i p) (take 0 (drop i s)) ≡ true
  passed-over k i a = rw (drop_of_length-le p a) refl

  starts-from : (k i : ℕ) → i + k ≡ length p → pointwise eqb (drop i p) (take k (drop i s)) ≡ starts_with (drop i p) (drop i s)
  starts-from zero i e = passed-over 0 i (omega arith) ∙ sym (mark-whole p s i (omega arith))
  starts-from (suc k) i e =
      let more : i < length p = omega arith in
      let x : ℕ = get_or p i 0 in
      let y : ℕ = get_or s i 0 in
      let others : Bool = pointwise eqb (drop (i + 1) p) (take k (drop (i + 1) s)) in
      by_test (ltb i (length s))
      (λ t. let there = ltb-true i (length s) t in
      by_test (eqb x y)
      (λ q. compared k i more there ∙ ap (λ b. b && others) q ∙ starts-from k (i + 1) (omega arith) ∙ sym (mark-same p s i more there (sym (eqb-true x y q))))
      (λ q. compared k i more there ∙ ap (λ b. b && others) q ∙ sym (mark-differs p s i more there (λ h. eqb-false x y q (sym h)))))
      (λ t. let ended = ltb-false i (length s) t in cut_off k i more ended ∙ sym (mark-short p s i more ended))

pub starts-slices : (mark s : List ℕ) → std.starts_with eqb s mark ≡ starts_with mark s
starts-slices mark s = starts-from mark s (length mark) 0 (omega arith)

-- what `position` answers of a test for x
pub span-first : (x : ℕ) (xs : List ℕ) (r : Option ℕ) →
    MatchOption r (AllWithin (λ y. y ≡ x → ⊥) xs 0 (length xs)) (λ i. (i < length xs) × HoldsAt (λ y. y ≡ x) xs i × AllWithin (λ y. y ≡ x → ⊥) xs 0 i) →
    span x xs ≡ unwrap_or r (length xs)
unfolding span
span-first x xs r h = index_from_first (span x) (λ y. y ≡ x) (λ y. y ≡ x → ⊥) refl (λ y ys e. rw (eq-eqb _ _ e)) (λ y ys e. rw (ne_eqb _ _ e, add-one)) xs r h

-- what a cast to a signed number of the same width reads
pub cast-signed : (w : Width) (half n : ℕ) → half ≡ 2 ^ hbits w → half + half ≡ 2 ^ bits w → n < half + half → to_z w n ≡ signed half n
cast-signed w half n e whole h = by_test (ltb n half)
    (λ t. let below = ltb-true n half t in to_z_pos w n (omega arith) ∙ sym (signed_low half n below))
    (λ t. let from_half = ltb-false n half t in
    let k = half + half - suc n in
    let is : n ≡ 2 ^ bits w - suc k = omega arith in
    ap (to_z w) is ∙ to_z-neg w k (omega arith) ∙ sym (signed_high half n from_half h))

-- the same, as it is stored and read back
pub signed-read : (w : Width) (half n : ℕ) → half ≡ 2 ^ hbits w → half + half ≡ 2 ^ bits w → n < half + half → to_z w (of_z w (to_z w n)) ≡ signed half n
signed-read w half n e whole h = rw (cast-signed w half n e whole h) (stored w half n e h)

-- of a byte; and of two bytes, the high one first
pub signed_one : (x : ℕ) → x < 256 → to_z w8 (of_z w8 (to_z w8 x)) ≡ signed8 x
signed_one x h = signed-read w8 128 x refl refl (omega arith)

pub signed_two : (high low : ℕ) → high < 256 → low < 256 → to_z w16 (of_z w16 (to_z w16 (sixteen high low))) ≡ signed16 high low
signed_two high low h l = signed-read w16 32768 (sixteen high low) refl refl (omega arith)

-- what `contains` answers at a range of bytes
pub range-between : (r : RangeInclusive ℕ) (low high n : ℕ) → range_inclusive_start r ≡ low → range_inclusive_end r ≡ high → range_inclusive_exhausted r ≡ false →
    range_inclusive_contains (λ a b. Some (nat_cmp a b)) r n ≡ between low high n
range-between r low high n s e x = rw (s, e, x) (search (rules, tests))

-- the part of a slice from one offset to another: as many elements as lie between
pub part-is : {A : Type 0} (xs : List A) (at n e : ℕ) → e ≡ at + n → slice_range xs at e ≡ take n (drop at xs)
part-is xs at n e h = let size : e - at ≡ n = omega arith in ap (λ m. take m (drop at xs)) size
