-- What is remembered: nothing at first, and one verdict more. Assumes nothing.
use mathlib.Core.Path.{◌≡◌, refl, sym, ap₂, subst, ◌∙◌}
use mathlib.Core.Bool.{Bool, true, false}
use mathlib.Core.List.{List}
use Prim.Native.Nat.{ℕ, zero, suc, ◌+◌, ◌*◌, ◌<◌}
use native.Mathlib.Omega.{arith}
use lib.Dec.{eqb}
use lib.ListN.{get_or, set, replicate, length-replicate, length-set}
use lib.Seq.{get_or-set_same, get_or-set_other}
use borrow.Author.Tests.{eqb-true, eqb-false}
use Rattle.model.specs.Lists.{pick}
use Rattle.model.specs.Solvable.{solvable}
use Rattle.model.proofs.Lists.{by_test}
use Rattle.book.specs.Book.{Book, template}
use Rattle.book.specs.Pairs.{asked, clash}
use Rattle.book_ask.specs.Verdicts.{Says, Remembers}

-- a verdict says what was found
pub told_says : (c : Bool) {v : ℕ} → v ≡ pick c 2 1 → Says v c
told_says true e = ((λ z. absurd (omega arith)), λ z. refl)
told_says false e = ((λ z. refl), λ z. absurd (omega arith))

-- nothing is known at first
zeros : (n i : ℕ) → get_or {A = ℕ} (replicate n 0) i 0 ≡ 0
zeros zero i = refl
zeros (suc n) zero = refl
zeros (suc n) (suc i) = zeros n i

pub none-known : (k : Book) → Remembers k (replicate 256 0)
none-known k = record {
  long = length-replicate {A = ℕ} 256 0;
  right = λ a b l. let e = zeros 256 (a * 16 + b) in ((λ z. absurd (omega arith)), λ z. absurd (omega arith));
}

module _ (k : Book) (verdicts : List ℕ) (h : Remembers k verdicts) (a b v : ℕ) (ha : a < 16) (hb : b < 16) (says : Says v (clash k a b)) where
  pub remembered : Remembers k (set verdicts (a * 16 + b) v)
  remembered = record {
    long = length-set verdicts (a * 16 + b) v ∙ h.long;
    right = λ x y l. by_test (eqb (x * 16 + y) (a * 16 + b))
        (λ t.
        let e = eqb-true (x * 16 + y) (a * 16 + b) t in
        let p : a ≡ x = omega arith in
        let q : b ≡ y = omega arith in
        subst (λ m. Says (get_or (set verdicts (a * 16 + b) v) m 0) (clash k x y)) (sym e)
        (subst (λ m. Says m (clash k x y)) (sym (get_or-set_same verdicts (a * 16 + b) v 0 (omega (arith, h.long))))
        (subst (λ z. Says v (clash k x z)) q (subst (λ z. Says v (clash k z b)) p says))))
        (λ t.
        let d = eqb-false (x * 16 + y) (a * 16 + b) t in
        subst (λ m. Says m (clash k x y)) (sym (get_or-set_other verdicts (a * 16 + b) (x * 16 + y) v 0 d)) (h.right x y l));
  }

-- templates that are the same ask the same
pub same-clash : (k : Book) (i j a b : ℕ) → template k a ≡ template k i → template k b ≡ template k j → clash k a b ≡ clash k i j
same-clash k i j a b e f = ap₂ (λ t u. solvable (asked k.letters t u)) e f
