-- How many elements from the start pass a test: one after the other from index i on, as code goes; those before the first that fails pass, and it fails. Assumes
-- nothing.
use mathlib.Core.Path.{◌≡◌, refl, sym, ap, ◌∙◌}
use mathlib.Core.Bool.{Bool, true, false}
use mathlib.Core.List.{List, [], ◌∷◌}
use Prim.Native.Nat.{ℕ, zero, suc, ◌+◌, ◌<◌, ◌≤◌}
use native.Mathlib.Omega.{arith}
use native.Mathlib.Numerals.{add-one}
use lib.ListN.{length, get_or, take, drop, drop_of_length-le}
use lib.Seq.{drop-cons}
use Rattle.model.specs.Lists.{leading, all, All}
use Rattle.model.proofs.Lists.{never, by_test, weaken}

module _ {A : Type 0} (p : A → Bool) where
  -- those before the first that fails pass
  leading_pass : (xs : List A) → All (λ x. p x ≡ true) (take (leading p xs) xs)
  unfolding leading All
  leading_pass [] = tt
  leading_pass (x ∷ xs) = by_test (p x) (λ t. rw t (t, leading_pass xs)) (λ t. rw t tt)

  -- it fails
  leading_fails : (xs : List A) (d : A) → leading p xs < length xs → p (get_or xs (leading p xs) d) ≡ false
  unfolding leading
  leading_fails [] d h = absurd (omega arith)
  leading_fails (x ∷ xs) d h = by_test (p x) (λ t. rw t (leading_fails xs d (let k = rw t at h in omega arith))) (λ t. rw t t)

  -- all pass exactly when there is none that fails
  pub all_lead : (xs : List A) → length xs ≤ leading p xs → all p xs ≡ true
  unfolding leading all
  all_lead [] h = refl
  all_lead (x ∷ xs) h = by_test (p x) (λ t. rw t (all_lead xs (let k = rw t at h in omega arith))) (λ t. absurd (let k = rw t at h in omega arith))

  pub not_all_lead : (xs : List A) → leading p xs < length xs → all p xs ≡ false
  unfolding leading all
  not_all_lead [] h = absurd (omega arith)
  not_all_lead (x ∷ xs) h = by_test (p x) (λ t. rw t (not_all_lead xs (let k = rw t at h in omega arith))) (λ t. rw t)

  -- no other number has those before it passing, and fails
  leading-only : (xs : List A) (i : ℕ) (d : A) → i < length xs → All (λ x. p x ≡ true) (take i xs) → p (get_or xs i d) ≡ false → leading p xs ≡ i
  unfolding leading All
  leading-only [] i d h before e = absurd (omega arith)
  leading-only (x ∷ xs) zero d h before e = rw e refl
  leading-only (x ∷ xs) (suc i) d h before e = rw before.0 (ap suc (leading-only xs i d (omega arith) before.1 e))

  module _ (xs : List A) (i : ℕ) (d : A) where
    pub leading_here : i < length xs → p (get_or xs i d) ≡ true → leading p (drop i xs) ≡ suc (leading p (drop (i + 1) xs))
    unfolding leading
    leading_here h e = rw (add-one, drop-cons xs i d, e)

    pub leading-ends : i < length xs → p (get_or xs i d) ≡ false → leading p (drop i xs) ≡ 0
    unfolding leading
    leading-ends h e = rw (drop-cons xs i d, e)

    pub leading-whole : length xs ≤ i → leading p (drop i xs) ≡ 0
    unfolding leading
    leading-whole h = rw (drop_of_length-le xs h)

-- The same of what a test decides: those before the first that fails have it, and that one has not; and no other number is so.
module _ {A : Type 0} (p : A → Bool) (P : A → Type 0) (out : (x : A) → p x ≡ true → P x) (in' : (x : A) → P x → p x ≡ true) (xs : List A) (i : ℕ) where
  pub leading_have : leading p xs ≡ i → All P (take i xs)
  leading_have e = weaken _ P (take i xs) out (rw e at (leading_pass p xs))

  pub leading_has_not : (d : A) → leading p xs ≡ i → i < length xs → P (get_or xs i d) → ⊥
  leading_has_not d e h k = never (sym (rw e at (leading_fails p xs d (omega arith))) ∙ in' (get_or xs i d) k)

  pub leading-first : (d : A) → i < length xs → All P (take i xs) → (P (get_or xs i d) → ⊥) → leading p xs ≡ i
  leading-first d h before lacks = leading-only p xs i d h (weaken P _ (take i xs) in' before)
      (by_test (p (get_or xs i d)) (λ t. absurd (lacks (out (get_or xs i d) t))) (λ t. t))
