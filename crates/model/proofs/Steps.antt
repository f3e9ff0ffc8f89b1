-- How a walk goes on: what is known when it got something, and that a longer list is read alike.
-- `Within k p`: p takes at most k bytes, and with k bytes at hand it does not see what follows them. Assumes nothing.
use mathlib.Core.Path.{◌≡◌, refl, sym, ap, subst, ◌∙◌}
use mathlib.Core.Bool.{Bool, true, false}
use mathlib.Core.List.{List, [], ◌∷◌, ◌++◌}
use Prim.Native.Nat.{ℕ, zero, suc, ◌+◌, ◌*◌, ◌≤◌}
use native.Mathlib.Omega.{arith}
use lib.Dec.{leb}
use lib.ListN.{length, take, drop, take-append-drop, length-take}
use lib.Seq.{take_all}
use borrow.Author.Tests.{leb-true, leb-false}
use Rattle.model.specs.Sheet.{Step, got, fault, ◌then◌, must, times}

pub no-fault : {A P : Type 0} {n : ℕ} {a : A} {xs : List ℕ} → fault n ≡ got a xs → P
no-fault e = let z : ◌≡◌ {A = ℕ} 0 1 = cc in absurd (omega arith)

got-value : {A : Type 0} {a b : A} {xs ys : List ℕ} → got a xs ≡ got b ys → a ≡ b
got-value e = cc

pub got-rest : {A : Type 0} {a b : A} {xs ys : List ℕ} → got a xs ≡ got b ys → xs ≡ ys
got-rest e = cc

pub same-got : {A : Type 0} (P : A → List ℕ → Type 0) {a b : A} {xs ys : List ℕ} → got a xs ≡ got b ys → P a xs → P b ys
same-got P {a = a} {ys = ys} e h = subst (λ c. P c ys) (got-value e) (subst (P a) (got-rest e) h)

-- a walk of two parts that got something got something in each
pub record Went {A B : Type 0} (s : Step A) (go : A → List ℕ → Step B) (b : B) (zs : List ℕ) : Type 0 where
  pub value : A
  pub rest : List ℕ
  pub first : s ≡ got value rest
  pub second : go value rest ≡ got b zs

module _ {A B : Type 0} where
  pub went : (s : Step A) (go : A → List ℕ → Step B) {b : B} {zs : List ℕ} → (s then go) ≡ got b zs → Went s go b zs
  went (got a ys) go h = record { value = a; rest = ys; first = refl; second = h }
  went (fault n) go h = no-fault h

pub held : {A : Type 0} (ok : Bool) (n : ℕ) (s : Step A) {a : A} {xs : List ℕ} → must ok n s ≡ got a xs → (ok ≡ true) × (s ≡ got a xs)
held true n s h = (refl, h)
held false n s h = no-fault h

-- the same step with more bytes after it
abbrev pub longer : {A : Type 0} → List ℕ → Step A → Step A
longer ys (got a xs) = got a (xs ++ ys)
longer ys (fault n) = fault n

pub record Within {A : Type 0} (k : ℕ) (p : List ℕ → Step A) : Type 0 where
  pub local : (xs ys : List ℕ) → k ≤ length xs → p (xs ++ ys) ≡ longer ys (p xs)
  pub spends : (xs : List ℕ) {a : A} {zs : List ℕ} → p xs ≡ got a zs → length xs ≤ k + length zs

module _ {A : Type 0} where
  pub within-got : (a : A) → Within 0 (λ xs. got a xs)
  within-got a = record { local = λ xs ys h. refl; spends = λ xs e. let f = ap length (got-rest e) in omega arith }

  pub within_more : {k m : ℕ} {p : List ℕ → Step A} → Within k p → k ≤ m → Within m p
  within_more w h = record {
    local = λ xs ys l. w.local xs ys (omega arith);
    spends = λ xs e. let f = w.spends xs e in omega arith;
  }

  longer_must : (ok : Bool) (n : ℕ) (s : Step A) (ys : List ℕ) → must ok n (longer ys s) ≡ longer ys (must ok n s)
  longer_must true n s ys = refl
  longer_must false n s ys = refl

  pub within-must : {k : ℕ} {p : List ℕ → Step A} (ok : Bool) (n : ℕ) → Within k p → Within k (λ xs. must ok n (p xs))
  within-must {p = p} ok n w = record {
    local = λ xs ys l. ap (must ok n) (w.local xs ys l) ∙ longer_must ok n (p xs) ys;
    spends = λ xs e. w.spends xs (held ok n (p xs) e).1;
  }

module _ {A B : Type 0} where
  longer_then : (s : Step A) (go : A → List ℕ → Step B) (ys : List ℕ) → ((a : A) (zs : List ℕ) → s ≡ got a zs → go a (zs ++ ys) ≡ longer ys (go a zs)) → (longer ys s then go) ≡ longer ys (s then go)
  longer_then (got a zs) go ys h = h a zs refl
  longer_then (fault n) go ys h = refl

  pub within_then : (k m : ℕ) (p : List ℕ → Step A) (go : A → List ℕ → Step B) → Within k p → ((xs : List ℕ) (a : A) (zs : List ℕ) → p xs ≡ got a zs → Within m (go a)) → Within (k + m) (λ xs. p xs then go)
  within_then k m p go w v = record {
    local = λ xs ys l.
        ap (λ s. s then go) (w.local xs ys (omega arith))
        ∙ longer_then (p xs) go ys (λ a zs e. let f = w.spends xs e in (v xs a zs e).local zs ys (omega arith));
    spends = λ xs e.
        let g = went (p xs) go e in
        let f = w.spends xs g.first in
        let h = (v xs g.value g.rest g.first).spends g.rest g.second in
        omega arith;
  }

-- n of a kind
module _ {A : Type 0} (k : ℕ) (one : List ℕ → Step A) (w : Within k one) where
  pub within-times : (n : ℕ) → Within (n * k) (times n one)
  unfolding times
  within-times zero = within_more (within-got []) (omega arith)
  within-times (suc n) =
      within_more
      (within_then k (n * k + 0) one (λ a ys. times n one ys then (λ more zs. got (a ∷ more) zs)) w
      (λ xs a zs e. within_then (n * k) 0 (times n one) (λ more zs. got (a ∷ more) zs) (within-times n) (λ xs more zs e. within-got (a ∷ more))))
      (omega arith)

-- What longer lists do not change, so many bytes decide.
pub prefix_decides : {R : Type 0} (f : List ℕ → R) (k : ℕ) → ((xs ys : List ℕ) → k ≤ length xs → f (xs ++ ys) ≡ f xs) → (b : List ℕ) → f b ≡ f (take k b)
prefix_decides f k same b = by_length (leb (length b) k) refl
  where
    by_length : (t : Bool) → leb (length b) k ≡ t → f b ≡ f (take k b)
    by_length true e = let h = leb-true (length b) k e in rw (take_all k b h)
    by_length false e =
        let h = leb-false (length b) k e in
        ap f (sym (take-append-drop k b)) ∙ same (take k b) (drop k b) (rw (length-take k b) (omega arith))
