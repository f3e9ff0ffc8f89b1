-- The table of surpluses: what its entries come to in equations taken in some way and put one after another, and when they show that nothing
-- solves the sheet. Assumes nothing.
use mathlib.Core.Path.{◌≡◌, refl}
use mathlib.Core.Bool.{Bool, true, false}
use mathlib.Core.List.{List}
use Prim.Native.Nat.{ℕ, ◌+◌, ◌-◌, ◌*◌, ◌/◌, ◌%◌, ◌<◌, ◌≤◌}
use native.Mathlib.Omega.{arith}
use lib.ListN.{length, get_or}
use borrow.Author.Tests.{lt-ltb, le-ltb}
use Rattle.model.specs.Sheet.{Sheet}
use Rattle.model.specs.Range.{InRange}
use Rattle.balance.specs.declared.Way.{Way}
use Rattle.balance.specs.declared.Way.TheVariants.{Standing, Turned, Out}
use Rattle.balance.specs.Balance.{occurs, chosen, turned_way, turned_ways, joined, Surplus, symbol_at, Sized, Tabulated, taken_so, taken_surplus, joined_surplus, Fair, Unfair, Unsolvable}
use Rattle.balance.proofs.Joined.{joined-none, joined-more, none-there, lopsided_apart, unpaired_apart}

-- an equation that the sheet does not have
pub even_there : (s : Sheet) (p x : ℕ) → length s.equations ≤ p → Surplus s p x 12
even_there s p x h = rw (none-there s p h) (refl, omega arith)

-- the surplus of an equation taken so is that of its first side over its second
taken_surplus_lem : (s : Sheet) (x p n : ℕ) (way : Way) → Surplus s p x n → taken_so n way + occurs x (chosen s p (turned_way way)) ≡ 12 + occurs x (chosen s p way)
taken_surplus_lem s x p n Standing h = h.0
taken_surplus_lem s x p n Turned h = omega (arith, h)
taken_surplus_lem s x p n Out h = refl

-- symbols counted in four equations
four_joined : (s : Sheet) (ways : List Way) (x : ℕ)
    → occurs x (joined s ways)
    ≡ occurs x (chosen s 0 (get_or ways 0 Standing)) + occurs x (chosen s 1 (get_or ways 1 Standing)) + occurs x (chosen s 2 (get_or ways 2 Standing)) + occurs x (chosen s 3 (get_or ways 3 Standing))
four_joined s ways x =
    let n = joined-none s ways x in
    let a = joined-more s ways x 0 in
    let b = joined-more s ways x 1 in
    let c = joined-more s ways x 2 in
    let d = joined-more s ways x 3 in
    omega arith

-- no entry is above 24
pub sized : (s : Sheet) (t : List ℕ) → Tabulated s t → Sized t
sized s t right = (right.0, (λ i h. (right.1 i h).1))

-- The sum of four entries is the surplus of the first sides over the second, put one after another.
module _ (s : Sheet) (t : List ℕ) (ways : List Way) (right : Tabulated s t) (k : ℕ) (less : k < 14) where
  entry : (p : ℕ) → p < 4
      → taken_surplus t ways p k + occurs (symbol_at k) (chosen s p (turned_way (get_or ways p Standing))) ≡ 12 + occurs (symbol_at k) (chosen s p (get_or ways p Standing))
  entry p h =
      let row : (14 * p + k) / 14 ≡ p = omega arith in
      let column : (14 * p + k) % 14 ≡ k = omega arith in
      let here = right.1 (14 * p + k) (omega arith) in
      taken_surplus_lem s (symbol_at k) p (get_or t (14 * p + k) 0) (get_or ways p Standing) (rw (row, column) at here)

  joined-right : joined_surplus t ways k + occurs (symbol_at k) (joined s (turned_ways ways)) ≡ 48 + occurs (symbol_at k) (joined s ways)
  joined-right =
      let a = entry 0 (omega arith) in
      let b = entry 1 (omega arith) in
      let c = entry 2 (omega arith) in
      let d = entry 3 (omega arith) in
      let m = four_joined s ways (symbol_at k) in
      let n = four_joined s (turned_ways ways) (symbol_at k) in
      omega arith

-- the same by a symbol's byte
module _ (s : Sheet) (ok : InRange s) (t : List ℕ) (ways : List Way) (right : Tabulated s t) where
  field-right : (x : ℕ) → 128 ≤ x → x < 128 + length s.limits
      → joined_surplus t ways (x - 120) + occurs x (joined s (turned_ways ways)) ≡ 48 + occurs x (joined s ways)
  field-right x low high =
      let few = ok.counts_in.of_fields in
      let k = x - 120 in
      let e : symbol_at k ≡ x = rw (le-ltb k 8 (omega arith)) (omega arith) in
      rw e at (joined-right s t ways right k (omega arith))

  letter-right : (a : ℕ) → a < length s.letters → joined_surplus t ways a + occurs a (joined s (turned_ways ways)) ≡ 48 + occurs a (joined s ways)
  letter-right a h =
      let few = ok.counts_in.of_letters in
      let e : symbol_at a ≡ a = rw (lt-ltb a 8 (omega arith)) refl in
      rw e at (joined-right s t ways right a (omega arith))

  -- where no field has a deficit and some letter a surplus, nothing solves the sheet
  surplus_apart : ((k : ℕ) → 8 ≤ k → k < 8 + length s.limits → 48 ≤ joined_surplus t ways k) → (a : ℕ) → a < length s.letters → 48 < joined_surplus t ways a → Unsolvable s
  surplus_apart fields a h more =
      lopsided_apart s ok ways a h
      (λ x low high. let m = field-right x low high in let n = fields (x - 120) (omega arith) (omega arith) in omega arith)
      (let m = letter-right a h in omega arith)

  -- where every field's surplus is even and some letter's odd, nothing does
  odd_apart : ((k : ℕ) → 8 ≤ k → k < 8 + length s.limits → joined_surplus t ways k % 2 ≡ 0) → (a : ℕ) → a < length s.letters → joined_surplus t ways a % 2 ≡ 1 → Unsolvable s
  odd_apart fields a h odd =
      unpaired_apart s ok ways a h
      (λ x low high. let m = field-right x low high in let n = fields (x - 120) (omega arith) (omega arith) in omega arith)
      (let m = letter-right a h in omega arith)

  pub unfair_apart : (pairs : Bool) → ((k : ℕ) → 8 ≤ k → k < 8 + length s.limits → Fair pairs (joined_surplus t ways k)) → (a : ℕ) → a < length s.letters → Unfair pairs (joined_surplus t ways a) → Unsolvable s
  unfair_apart false fields a h more = surplus_apart fields a h more
  unfair_apart true fields a h odd = odd_apart fields a h odd
