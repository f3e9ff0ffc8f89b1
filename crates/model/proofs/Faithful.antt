-- A walk and the bytes of what it reads give each other back, one thing and n of a kind. Assumes nothing.
use mathlib.Core.Path.{◌≡◌, refl, sym, ap, ◌∙◌}
use mathlib.Core.List.{List, [], ◌∷◌, ◌++◌, append_assoc}
use Prim.Native.Nat.{ℕ, zero, suc, ◌<◌}
use lib.ListN.{length}
use Rattle.model.specs.Lists.{each, All, Bytes}
use Rattle.model.specs.Sheet.{Step, got, ◌then◌, times}
use Rattle.model.proofs.Lists.{append_out}
use Rattle.model.proofs.Steps.{same-got, went}

pub rest_bytes : {xs : List ℕ} (ys zs : List ℕ) → xs ≡ ys ++ zs → Bytes xs → Bytes ys × Bytes zs
rest_bytes ys zs e h = append_out (λ x. x < 256) ys zs (rw e at h)

-- what was got, its bytes, and what it keeps to
pub record Exact {A : Type 0} (code : A → List ℕ) (Ok : A → Type 0) (xs : List ℕ) (a : A) (zs : List ℕ) : Type 0 where
  pub bytes : xs ≡ code a ++ zs
  pub ok : Ok a

pub record Faithful {A : Type 0} (p : List ℕ → Step A) (code : A → List ℕ) (Ok : A → Type 0) : Type 0 where
  pub reads : (a : A) (zs : List ℕ) → Ok a → p (code a ++ zs) ≡ got a zs
  pub exact : (xs : List ℕ) {a : A} {zs : List ℕ} → Bytes xs → p xs ≡ got a zs → Exact code Ok xs a zs

-- n of a kind
abbrev pub Several : {A : Type 0} → (A → Type 0) → ℕ → List A → Type 0
Several Ok n more = (length more ≡ n) × All Ok more

module _ {A : Type 0} (p : List ℕ → Step A) (code : A → List ℕ) (Ok : A → Type 0) (f : Faithful p code Ok) where
  pub times_reads : (more : List A) (zs : List ℕ) → All Ok more → times (length more) p (each more code ++ zs) ≡ got more zs
  unfolding times each All
  times_reads [] zs h = refl
  times_reads (a ∷ more) zs h =
      rw (append_assoc, f.reads a (each more code ++ zs) h.0, times_reads more zs h.1)

  pub times_exact : (n : ℕ) (xs : List ℕ) {more : List A} {zs : List ℕ} → Bytes xs → times n p xs ≡ got more zs → Exact (λ l. each l code) (Several Ok n) xs more zs
  unfolding times each All
  times_exact zero xs b h =
      same-got (Exact (λ l. each l code) (Several Ok 0) xs) h (record { bytes = refl; ok = (refl, tt) })
  times_exact (suc n) xs b h =
      let onward : A → List ℕ → Step (List A) = λ a ys. times n p ys then (λ more zs. got (a ∷ more) zs) in
      let g = went (p xs) onward h in
      let k = went (times n p g.rest) (λ more zs. got (g.value ∷ more) zs) g.second in
      let one = f.exact xs b g.first in
      let rest = times_exact n g.rest (rest_bytes (code g.value) g.rest one.bytes b).1 k.first in
      same-got (Exact (λ l. each l code) (Several Ok (suc n)) xs) k.second
      (record {
        bytes = one.bytes ∙ ap (λ l. code g.value ++ l) rest.bytes ∙ sym (append_assoc (code g.value) (each k.value code) k.rest);
        ok = (ap suc rest.ok.0, (one.ok, rest.ok.1));
      })
