-- A row as the code reads it: one byte at a time from an offset. Each law says what one byte does to what is left of the row. Assumes nothing.
use mathlib.Core.Path.{◌≡◌, ap, ◌∙◌}
use mathlib.Core.Bool.{true, false}
use mathlib.Core.List.{List, ◌∷◌}
use Prim.Native.Nat.{ℕ, suc, ◌+◌, ◌-◌, ◌<◌, ◌≤◌}
use native.Mathlib.Omega.{arith}
use lib.ListN.{length, get_or, drop, drop_of_length-le}
use lib.Seq.{drop-cons}
use Rattle.model.specs.Sheet.{Step, got, fault, rest, Role, passes, refusal_of, row}
use Rattle.model.proofs.Rests.{rest_wrapped}
use Rattle.model.proofs.Rows.{row-none, row_missing, row_next, row_stops}

module _ (role : Role) (b : List ℕ) (at n i before : ℕ) where
  -- what is left of the row
  abbrev pub onward : Step Unit
  onward = rest (row role before (n - i) (drop (at + i) b))

  pub row_starts : i ≡ 0 → rest (row role before n (drop at b)) ≡ onward
  row_starts e =
      let m : n ≡ n - i = omega arith in
      let k : at ≡ at + i = omega arith in
      ap (λ x. rest (row role before x (drop at b))) m ∙ ap (λ x. rest (row role before (n - i) (drop x b))) k

  module _ (turn : i < n) where
    one_more : n - i ≡ suc (n - (i + 1))
    one_more = omega arith

    pub row-lacks : length b ≤ at + i → onward ≡ fault 8
    row-lacks h = rw (one_more, drop_of_length-le b h, row_missing role before (n - (i + 1)))

    module _ (has : at + i < length b) where
      first : drop (at + i) b ≡ get_or b (at + i) 0 ∷ drop (at + (i + 1)) b
      first =
          let e : suc (at + i) ≡ at + (i + 1) = omega arith in
          drop-cons b (at + i) 0 has ∙ ap (λ k. get_or b (at + i) 0 ∷ drop k b) e

      pub row_goes : passes role before (get_or b (at + i) 0) ≡ true → onward ≡ rest (row role (get_or b (at + i) 0) (n - (i + 1)) (drop (at + (i + 1)) b))
      row_goes e =
          rw (one_more, first, row_next role before (n - (i + 1)) (get_or b (at + i) 0) (drop (at + (i + 1)) b) e)
          (rest_wrapped (row role (get_or b (at + i) 0) (n - (i + 1)) (drop (at + (i + 1)) b)) (λ ys. get_or b (at + i) 0 ∷ ys))

      pub row_faults : passes role before (get_or b (at + i) 0) ≡ false → onward ≡ fault (refusal_of role)
      row_faults e =
          rw (one_more, first, row_stops role before (n - (i + 1)) (get_or b (at + i) 0) (drop (at + (i + 1)) b) e)

  pub row_done : i ≡ n → onward ≡ got tt (drop (at + n) b)
  row_done e =
      let z : n - i ≡ 0 = omega arith in
      rw (z, row-none role before (drop (at + i) b), e)
