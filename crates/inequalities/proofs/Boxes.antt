-- Rows over a box of lengths. A side grows with the lengths, since nothing in it is negative; and in a box of one vector a row is hopeless or holds.
-- Assumes nothing.
use mathlib.Core.Path.{◌≡◌, ap}
use mathlib.Core.Bool.{true, false}
use mathlib.Core.List.{List}
use Prim.Native.Nat.{ℕ, ◌+◌, ◌*◌, ◌<◌, ◌≤◌}
use native.Mathlib.Nat.{mul-le-mul_left}
use native.Mathlib.Omega.{arith}
use lib.ListN.{get_or, drop}
use borrow.Author.Tests.{ltb-false, le-leb}
use Rattle.model.proofs.Keeping.{total-same, total_grows}
use Rattle.inequalities.specs.Rows.{side_sum, row_holds, hopeless_row}

-- a side at greater lengths, and at the same lengths
pub side_grows : (xs m n : List ℕ) → ((f : ℕ) → f < 6 → get_or m f 0 ≤ get_or n f 0) → side_sum xs m ≤ side_sum xs n
unfolding side_sum
side_grows xs m n h =
    let k : 6 ≤ 6 = omega arith in
    let sums = total_grows 6 6 (λ f. get_or xs f 0 * get_or m f 0) (λ f. get_or xs f 0 * get_or n f 0) k (λ f l. mul-le-mul_left (get_or xs f 0) (h f l)) in
    omega arith

pub side_same : (xs m n : List ℕ) → ((f : ℕ) → f < 6 → get_or m f 0 ≡ get_or n f 0) → side_sum xs m ≡ side_sum xs n
unfolding side_sum
side_same xs m n h = ap (λ z. z + get_or xs 6 0) (total-same 6 (λ f. get_or xs f 0 * get_or m f 0) (λ f. get_or xs f 0 * get_or n f 0) (λ f l. ap (λ z. get_or xs f 0 * z) (h f l)))

pub hopeful_row : (row lo hi : List ℕ) → ((f : ℕ) → f < 6 → get_or lo f 0 ≡ get_or hi f 0) → hopeless_row row lo hi ≡ false → row_holds row lo ≡ true
unfolding hopeless_row row_holds
hopeful_row row lo hi same e =
    let within = ltb-false (side_sum (drop 7 row) hi) (side_sum row lo) e in
    let k = side_same (drop 7 row) lo hi same in
    le-leb (side_sum row lo) (side_sum (drop 7 row) lo) (omega arith)
