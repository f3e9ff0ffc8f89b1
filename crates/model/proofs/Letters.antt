-- Words over a sheet's letters are equal exactly when their letter bytes are: the letters strictly rise. So comparing letter numbers is
-- comparing texts. Assumes nothing.
use mathlib.Core.Path.{◌≡◌, refl, ap}
use mathlib.Core.List.{List, [], ◌∷◌}
use Prim.Native.Nat.{ℕ, zero, suc, ◌<◌}
use native.Mathlib.Omega.{arith}
use lib.Dec.{ltb}
use lib.ListN.{length, get_or}
use borrow.Author.Tests.{ltb-true, ltb-false}
use Rattle.model.specs.Lists.{All}
use Rattle.model.specs.Sheet.{Sheet, letter_of}
use Rattle.model.specs.Range.{Rising, InRange}
use Rattle.model.specs.Word.{letter_bytes}
use Rattle.model.proofs.Lists.{by_test}

-- in a rising list each element is above the number before it, and above those that stand before it
above : (before : ℕ) (xs : List ℕ) → Rising before xs → (i : ℕ) → i < length xs → before < get_or xs i 0
unfolding Rising
above before [] h i l = absurd (omega arith)
above before (x ∷ xs) h zero l = h.0
above before (x ∷ xs) h (suc i) l = let k = above x xs h.1 i (omega arith) in omega (arith, h.0)

rises : (before : ℕ) (xs : List ℕ) → Rising before xs → (i j : ℕ) → i < j → j < length xs → get_or xs i 0 < get_or xs j 0
unfolding Rising
rises before [] h i j k l = absurd (omega arith)
rises before (x ∷ xs) h i zero k l = absurd (omega arith)
rises before (x ∷ xs) h zero (suc j) k l = above x xs h.1 j (omega arith)
rises before (x ∷ xs) h (suc i) (suc j) k l = rises x xs h.1 i j (omega arith) (omega arith)

letter-same : (s : Sheet) → InRange s → (a b : ℕ) → a < length s.letters → b < length s.letters → letter_of s a ≡ letter_of s b → a ≡ b
letter-same s r a b h k e =
    by_test (ltb a b)
    (λ t. let n = rises 0 s.letters r.rising a b (ltb-true a b t) k in absurd (omega arith))
    (λ t. by_test (ltb b a)
    (λ q. let n = rises 0 s.letters r.rising b a (ltb-true b a q) h in absurd (omega arith))
    (λ q. let m = ltb-false a b t in let n = ltb-false b a q in omega arith))

pub letters-same : (s : Sheet) → InRange s → (u w : List ℕ) → All (λ a. a < length s.letters) u → All (λ a. a < length s.letters) w → letter_bytes s u ≡ letter_bytes s w → u ≡ w
unfolding All
letters-same s r [] [] h k e = refl
letters-same s r [] (y ∷ ys) h k e = let z = ap length e in absurd (omega arith)
letters-same s r (x ∷ xs) [] h k e = let z = ap length e in absurd (omega arith)
letters-same s r (x ∷ xs) (y ∷ ys) h k e =
    let first = letter-same s r x y h.0 k.0 (ap (λ l. get_or l 0 0) e) in
    let others = letters-same s r xs ys h.1 k.1 (rest-same e) in
    cc
  where
    rest-same : {a b : ℕ} {us ws : List ℕ} → a ∷ us ≡ b ∷ ws → us ≡ ws
    rest-same e = cc
