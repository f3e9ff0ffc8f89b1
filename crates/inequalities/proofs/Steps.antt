-- The steps of the code: a side of a row number by number, a template symbol by symbol. Assumes nothing.
use mathlib.Core.Path.{◌≡◌, refl, ap, ◌∙◌}
use mathlib.Core.List.{List, ◌++◌, map}
use Prim.Native.Nat.{ℕ, zero, suc, ◌+◌, ◌*◌, ◌<◌, ◌≤◌}
use native.Mathlib.Numerals.{add-one}
use native.Mathlib.Omega.{arith}
use lib.Dec.{eqb}
use lib.ListN.{length, get_or, drop, set, drop_of_length-le}
use lib.Seq.{drop-cons, get_or-drop}
use Rattle.std.proofs.lemmas.List.{length-set, get_or-set_same, get_or-set_other, ext_get_or}
use Rattle.model.specs.Lists.{pick, from, total}
use Rattle.model.specs.Sheet.{symbol_of}
use Rattle.model.proofs.Keeping.{total-more}
use Rattle.inequalities.specs.Rows.{side_sum, slot_of, occurrences, side}

-- A side of a row at an offset, the first k fields summed: none, one more, and all.
abbrev pub side_to : List ℕ → ℕ → List ℕ → ℕ → ℕ
side_to rows at n k = total k (λ f. get_or (drop at rows) f 0 * get_or n f 0) + get_or (drop at rows) 6 0

module _ (rows : List ℕ) (at : ℕ) (n : List ℕ) where
  pub side_begins : get_or rows (at + 6) 0 ≡ side_to rows at n 0
  unfolding total
  side_begins = let e = get_or-drop at rows 6 0 in omega arith

  pub side_next : (k : ℕ) → side_to rows at n k + get_or rows (at + k) 0 * get_or n k 0 ≡ side_to rows at n (k + 1)
  side_next k =
      let e = ap (λ z. z * get_or n k 0) (get_or-drop at rows k 0) in
      let step = total-more k (λ f. get_or (drop at rows) f 0 * get_or n f 0) in
      omega arith

  pub side_done : side_to rows at n 6 ≡ side_sum (drop at rows) n
  unfolding side_sum
  side_done = refl

-- the symbols of a template from index i on
module _ (t : List ℕ) (k i : ℕ) where
  pub occurrences_turn : i < length t → occurrences (map symbol_of (drop i t)) k ≡ pick (eqb (slot_of (symbol_of (get_or t i 0))) k) 1 0 + occurrences (map symbol_of (drop (i + 1) t)) k
  unfolding occurrences
  occurrences_turn h = rw (add-one, drop-cons t i 0)

  pub occurrences_done : length t ≤ i → occurrences (map symbol_of (drop i t)) k ≡ 0
  unfolding occurrences
  occurrences_done h = rw (drop_of_length-le t h)

-- A row written field by field: the factors of the first k fields, on both sides.
pub record WrittenTo (row : List ℕ) (first second : ℕ → ℕ) (k : ℕ) : Type 0 where
  pub long : length row ≡ 14
  pub firsts : (f : ℕ) → f < k → get_or row f 0 ≡ first f
  pub seconds : (f : ℕ) → f < k → get_or row (7 + f) 0 ≡ second f

module _ (row : List ℕ) (first second : ℕ → ℕ) where
  pub written_all : (m n : ℕ) → WrittenTo row first second 6 → set (set row 6 m) 13 n ≡ side first m ++ side second n
  unfolding from
  written_all m n w = ext_get_or 0 (set (set row 6 m) 13 n) (side first m ++ side second n) (simp length-set w.long) at
    where
      kept : (i : ℕ) → (i ≡ 6 → ⊥) → (i ≡ 13 → ⊥) → get_or (set (set row 6 m) 13 n) i 0 ≡ get_or row i 0
      kept i a b = get_or-set_other (set row 6 m) 13 i n 0 b ∙ get_or-set_other row 6 i m 0 a

      left : (f : ℕ) → f < 6 → get_or (set (set row 6 m) 13 n) f 0 ≡ first f
      left f h = kept f (λ e. omega arith) (λ e. omega arith) ∙ w.firsts f h

      right : (f : ℕ) → f < 6 → get_or (set (set row 6 m) 13 n) (7 + f) 0 ≡ second f
      right f h = kept (7 + f) (λ e. omega arith) (λ e. omega arith) ∙ w.seconds f h

      at : (i : ℕ) → i < length (set (set row 6 m) 13 n) → get_or (set (set row 6 m) 13 n) i 0 ≡ get_or (side first m ++ side second n) i 0
      at zero h = left 0 (omega arith)
      at (suc zero) h = left 1 (omega arith)
      at (suc (suc zero)) h = left 2 (omega arith)
      at (suc (suc (suc zero))) h = left 3 (omega arith)
      at (suc (suc (suc (suc zero)))) h = left 4 (omega arith)
      at (suc (suc (suc (suc (suc zero))))) h = left 5 (omega arith)
      at (suc (suc (suc (suc (suc (suc zero)))))) h = get_or-set_other (set row 6 m) 13 6 n 0 (λ e. omega arith) ∙ get_or-set_same row 6 m 0 (omega (arith, w.long))
      at (suc (suc (suc (suc (suc (suc (suc zero))))))) h = right 0 (omega arith)
      at (suc (suc (suc (suc (suc (suc (suc (suc zero)))))))) h = right 1 (omega arith)
      at (suc (suc (suc (suc (suc (suc (suc (suc (suc zero))))))))) h = right 2 (omega arith)
      at (suc (suc (suc (suc (suc (suc (suc (suc (suc (suc zero)))))))))) h = right 3 (omega arith)
      at (suc (suc (suc (suc (suc (suc (suc (suc (suc (suc (suc zero))))))))))) h = right 4 (omega arith)
      at (suc (suc (suc (suc (suc (suc (suc (suc (suc (suc (suc (suc zero)))))))))))) h = right 5 (omega arith)
      at (suc (suc (suc (suc (suc (suc (suc (suc (suc (suc (suc (suc (suc zero))))))))))))) h = get_or-set_same (set row 6 m) 13 n 0 (omega (arith, length-set {A = ℕ}, w.long))
      at (suc (suc (suc (suc (suc (suc (suc (suc (suc (suc (suc (suc (suc (suc i)))))))))))))) h = absurd (omega (arith, length-set {A = ℕ}, w.long))
