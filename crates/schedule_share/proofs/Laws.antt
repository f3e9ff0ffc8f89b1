-- Whether some interval passes a test, asked by number. Assumes nothing.
use mathlib.Core.Path.{◌≡◌, sym, ap, ◌∙◌}
use mathlib.Core.Bool.{Bool, true, false, ◌||◌}
use mathlib.Core.List.{List}
use Prim.Native.Nat.{ℕ, zero, suc, ◌+◌, ◌-◌, ◌*◌}
use native.Mathlib.Omega.{arith}
use Rattle.std.specs.List.{list_any, range_with_len}
use Rattle.model.specs.Lists.{any}
use Rattle.model.proofs.Lists.{by_test, or_left}
use Rattle.schedule.specs.Schedule.{Interval}
use Rattle.schedule.specs.Offsets.{interval_at, standing}
use Rattle.schedule.proofs.Turns.{some_done, some_here, some-later}

-- of n + 1 that stand from offset k on: the one at hand passes it, or else the others decide
module _ (f : Interval → Bool) (b : List ℕ) (k n : ℕ) where
  here : f (interval_at b k) ≡ true → any f (standing b k (suc n)) ≡ true
  here t = let all : suc n ≡ suc n - 0 = omega arith in ap (λ m. any f (standing b k m)) all ∙ some_here b f k (suc n) 0 (omega arith) t

  later : f (interval_at b k) ≡ false → any f (standing b k (suc n)) ≡ any f (standing b (k + 4) n)
  later t =
      let all : suc n ≡ suc n - 0 = omega arith in
      let left : suc n - (0 + 1) ≡ n = omega arith in
      ap (λ m. any f (standing b k m)) all ∙ some-later b f k (suc n) 0 (omega arith) t ∙ ap (λ m. any f (standing b (k + 4) m)) left

pub some-by_number : (f : Interval → Bool) (b : List ℕ) (at s k n : ℕ) → k ≡ at + 4 * s → list_any (λ w. f (interval_at b (at + 4 * w))) (range_with_len s n) ≡ any f (standing b k n)
some-by_number f b at s k zero e = sym (some_done b f k 0 0 (omega arith))
some-by_number f b at s k (suc n) e =
    let d : k + 4 ≡ at + 4 * (s + 1) = omega arith in
    let others : Bool = list_any (λ w. f (interval_at b (at + 4 * w))) (range_with_len (s + 1) n) in
    let test = ap (λ m. f (interval_at b m)) (sym e) in
    by_test (f (interval_at b k))
    (λ t. or_left others (test ∙ t) ∙ sym (here f b k n t))
    (λ t. ap (λ x. x || others) (test ∙ t) ∙ some-by_number f b at (s + 1) (k + 4) n d ∙ sym (later f b k n t))
