-- Whether a list starts with a mark, decided from index i on: one element at a time. Assumes nothing.
use mathlib.Core.Path.{◌≡◌}
use mathlib.Core.Bool.{true, false}
use mathlib.Core.List.{List}
use Prim.Native.Nat.{ℕ, ◌+◌, ◌<◌, ◌≤◌}
use native.Mathlib.Numerals.{add-one}
use lib.ListN.{length, get_or, drop, drop_of_length-le}
use lib.Seq.{drop-cons}
use borrow.Author.Tests.{eq-eqb, ne_eqb}
use Rattle.model.specs.Lists.{starts_with}

module _ (p s : List ℕ) (i : ℕ) where
  pub mark-same : i < length p → i < length s → get_or s i 0 ≡ get_or p i 0 → starts_with (drop i p) (drop i s) ≡ starts_with (drop (i + 1) p) (drop (i + 1) s)
  unfolding starts_with
  mark-same a b e = rw (add-one, drop-cons p i 0, drop-cons s i 0) (simp (eq-eqb _ _ e))

  pub mark-differs : i < length p → i < length s → (get_or s i 0 ≡ get_or p i 0 → ⊥) → starts_with (drop i p) (drop i s) ≡ false
  unfolding starts_with
  mark-differs a b e = rw (drop-cons p i 0, drop-cons s i 0) (simp (ne_eqb _ _ e))

  pub mark-short : i < length p → length s ≤ i → starts_with (drop i p) (drop i s) ≡ false
  unfolding starts_with
  mark-short a b = rw (drop_of_length-le s b, drop-cons p i 0)

  pub mark-whole : length p ≤ i → starts_with (drop i p) (drop i s) ≡ true
  unfolding starts_with
  mark-whole a = rw (drop_of_length-le p a)
