-- The list as it is written, pair by pair and row by row; and which pairs a table wants. Assumes nothing.
use mathlib.Core.Path.{◌≡◌, sym, ap, subst, ◌∙◌}
use mathlib.Core.Bool.{Bool, false, and-false}
use mathlib.Core.List.{List, [], ◌∷◌}
use Prim.Native.Nat.{ℕ, suc, ◌+◌, ◌-◌, ◌*◌, ◌<◌, ◌≤◌}
use native.Mathlib.Omega.{arith}
use lib.ListN.{length, get_or, replicate, get_or-replicate}
use borrow.Author.Tests.{eq-eqb, ne_eqb}
use Rattle.model.specs.Lists.{each, from, up_to, when, Puts}
use Rattle.model.proofs.Lists.{and_true}
use Rattle.model.proofs.Seams.{nothing}
use Rattle.model.proofs.Pieces.{each_from}
use Rattle.book.specs.Book.{Book}
use Rattle.book.specs.Pairs.{kept, clash, clashing, row_bytes}
use Rattle.book.proofs.Listed.{kept-agree, clashing-kept}
use Rattle.book_list.specs.Wanted.{wants, listed}

-- what is written of two templates
pub pair_none : (s : List ℕ) (at i j : ℕ) (t : Bool) → t ≡ false → Puts s at (when t (i ∷ j ∷ [])) s at
pair_none s at i j t e = let w = nothing s at in subst (λ b. Puts s at (when b (i ∷ j ∷ [])) s at) (sym e) (w.past, w.holds)

module _ (table : List ℕ) (k : Book) (i j : ℕ) where
  pub not_wanted : get_or table (i * 16 + j) 0 ≡ 0 → listed table k i j ≡ false
  unfolding listed wants
  not_wanted e = rw (eq-eqb (get_or table (i * 16 + j) 0) 0 e) (and-false (clash k i j))

  pub wanted_clash : (get_or table (i * 16 + j) 0 ≡ 0 → ⊥) → listed table k i j ≡ clash k i j
  unfolding listed wants
  wanted_clash d = rw (ne_eqb (get_or table (i * 16 + j) 0) 0 d) (and_true (clash k i j))

-- where all are wanted, those that clash are listed
pub all_wanted : (k : Book) → length k.templates ≤ 16 → kept (listed (replicate 256 1) k) (length k.templates) ≡ clashing k
all_wanted k few =
    kept-agree (listed (replicate 256 1) k) (clash k) (length k.templates)
    (λ i j l m. wanted_clash (replicate 256 1) k i j (λ e. let one : get_or {A = ℕ} (replicate 256 1) (i * 16 + j) 0 ≡ 1 = get_or-replicate 256 (i * 16 + j) 1 0 (omega arith) in omega arith))
    ∙ sym (clashing-kept k)

-- the d-th after i
module _ (t : ℕ → ℕ → Bool) (i : ℕ) where
  unfoldable pub piece : ℕ → List ℕ
  piece d = when (t i (suc i + d)) (i ∷ (suc i + d) ∷ [])

  pub piece_is : (j : ℕ) → i < j → piece (j - (i + 1)) ≡ when (t i j) (i ∷ j ∷ [])
  unfolding piece
  piece_is j h = let e : suc i + (j - (i + 1)) ≡ j = omega arith in ap (λ m. when (t i m) (i ∷ m ∷ [])) e

  pub row-pieces : (n : ℕ) → row_bytes t n i ≡ each (up_to (n - (i + 1))) piece
  unfolding row_bytes piece
  row-pieces n =
      let e : suc i ≡ suc i + 0 = omega arith in
      let m : n - suc i ≡ n - (i + 1) = omega arith in
      ap (λ c. each (from (suc i) c) (λ j. when (t i j) (i ∷ j ∷ []))) m
      ∙ ap (λ c. each (from c (n - (i + 1))) (λ j. when (t i j) (i ∷ j ∷ []))) e
      ∙ each_from (λ j. when (t i j) (i ∷ j ∷ [])) (suc i) 0 (n - (i + 1))
