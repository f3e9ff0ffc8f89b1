-- What is tried at a vector: it depends on the six lengths alone, and it is an attempt where the rows hold. Assumes nothing.
use mathlib.Core.Path.{◌≡◌, refl, ap₂}
use mathlib.Core.Bool.{Bool, true, false}
use mathlib.Core.List.{List}
use Rattle.std.specs.Prelude.{IsSome}
use Prim.Native.Nat.{ℕ, ◌*◌}
use native.Mathlib.Omega.{arith}
use lib.Dec.{leb}
use lib.ListN.{drop}
use Rattle.model.proofs.Lists.{never}
use Rattle.model.proofs.Keeping.{all_same}
use Rattle.trails.specs.Equations.{Equation}
use Rattle.walk.specs.Reading.{start_of}
use Rattle.trails.specs.Attempt.{attempt_of, answer_of}
use Rattle.inequalities.specs.Rows.{row_holds, rows_hold}
use Rattle.inequalities.proofs.Boxes.{side_same}
use Rattle.bounds.proofs.Widest.{Same}
use Rattle.boxes.specs.Vectors.{try_of}

pub rows_same : (rows : List ℕ) (count : ℕ) (a b : List ℕ) → Same a b → rows_hold rows count a ≡ rows_hold rows count b
unfolding rows_hold row_holds
rows_same rows count a b h =
    all_same (λ i. row_holds (drop (14 * i) rows) a) (λ i. row_holds (drop (14 * i) rows) b) count (λ i _.
    ap₂ leb (side_same (drop (14 * i) rows) a b h) (side_same (drop 7 (drop (14 * i) rows)) a b h))

pub start-same : (a b : List ℕ) → Same a b → start_of a ≡ start_of b
unfolding start_of
start-same a b h = rw (h 0 (omega arith), h 1 (omega arith), h 2 (omega arith), h 3 (omega arith), h 4 (omega arith), h 5 (omega arith))

module _ (es : List Equation) (rows : List ℕ) (count : ℕ) where
  pub try_same : (a b : List ℕ) → Same a b → try_of es rows count a ≡ try_of es rows count b
  unfolding try_of attempt_of
  try_same a b h = rw (rows_same rows count a b h, start-same a b h)

  pub tries : (m : List ℕ) → rows_hold rows count m ≡ true → answer_of es m ≡ try_of es rows count m
  unfolding try_of
  tries m h = rw h

  -- what a success says, and what it takes
  pub record Tried (m : List ℕ) : Type 0 where
    pub rows_hold : rows_hold rows count m ≡ true
    pub attempted : IsSome (answer_of es m)
    pub is : try_of es rows count m ≡ answer_of es m

  pub try_out : (m : List ℕ) → IsSome (try_of es rows count m) → Tried m
  unfolding try_of
  try_out m e = by (rows_hold rows count m) refl
    where
      by : (b : Bool) → rows_hold rows count m ≡ b → Tried m
      by true t = record { rows_hold = t; attempted = rw t at e; is = rw t }
      by false t = never (rw t at e)

  pub try_in : (m : List ℕ) → rows_hold rows count m ≡ true → IsSome (answer_of es m) → IsSome (try_of es rows count m)
  unfolding try_of
  try_in m r e = rw r e
