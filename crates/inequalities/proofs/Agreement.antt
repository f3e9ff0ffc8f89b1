-- The gathered rows: written one after the other they are tested one after the other, and together they hold exactly when the lengths
-- agree with the asked equations and constraints. Assumes nothing.
use mathlib.Core.Path.{◌≡◌, refl, sym, ap, ap₂, ◌∙◌}
use mathlib.Core.Bool.{Bool, true, ◌&&◌, and_assoc}
use mathlib.Core.List.{List, [], ◌∷◌, ◌++◌, append_assoc}
use Prim.Native.Nat.{ℕ, zero, suc, ◌+◌, ◌*◌, ◌≤◌}
use native.Mathlib.Omega.{arith}
use lib.ListN.{length, get_or, drop, length-drop, get_or-append}
use lib.Seq.{drop-append-le, drop-append-add}
use Rattle.model.specs.Lists.{each, from, up_to, all, All}
use Rattle.model.specs.Sheet.{Symbol, letter, field, Equation, Constraint, Sheet}
use Rattle.model.specs.Range.{SymbolIn, TemplateIn, InRange}
use Rattle.model.specs.Word.{Substitution, constraint_holds}
use Rattle.model.proofs.Lists.{weaken, append_in, each_in, and_true}
use Rattle.model.proofs.Keeping.{total-same}
use Rattle.model.proofs.Seams.{placed_front}
use Rattle.inequalities.specs.Asked.{asked, lengths_of, sides_agree, lengths_agree}
use Rattle.inequalities.specs.Rows.{side_sum, row_holds, rows_hold, equation_row, equation_rows, constraint_row, constraint_rows, gathered, flat, Gathered}
use Rattle.inequalities.proofs.Asked.{asked_in}
use Rattle.inequalities.proofs.Rows.{equation_rows_lem, constraint-row}

-- Tests over lists: in parts, two that agree, and one over numbers that are all one higher. What holds of everything holds in a list.
module _ {A : Type 0} (t : A → Bool) where
  all_append : (xs ys : List A) → all t (xs ++ ys) ≡ (all t xs && all t ys)
  unfolding all
  all_append [] ys = refl
  all_append (x ∷ xs) ys = ap (λ b. t x && b) (all_append xs ys) ∙ sym (and_assoc (t x) (all t xs) (all t ys))

  all-each : {B : Type 0} (xs : List B) (f : B → List A) → all t (each xs f) ≡ all (λ x. all t (f x)) xs
  unfolding all each
  all-each [] f = refl
  all-each (x ∷ xs) f = all_append (f x) (each xs f) ∙ ap (λ b. all t (f x) && b) (all-each xs f)

  all-agree : (u : A → Bool) (xs : List A) → All (λ x. t x ≡ u x) xs → all t xs ≡ all u xs
  unfolding all All
  all-agree u [] h = refl
  all-agree u (x ∷ xs) h = ap₂ ◌&&◌ h.0 (all-agree u xs h.1)

all_shift : (t : ℕ → Bool) (a n : ℕ) → all t (from (suc a) n) ≡ all (λ i. t (suc i)) (from a n)
unfolding all from
all_shift t a zero = refl
all_shift t a (suc n) = ap (λ b. t (suc a) && b) (all_shift t (suc a) n)

every : {A : Type 0} (P : A → Type 0) → ((x : A) → P x) → (xs : List A) → All P xs
unfolding All
every P h [] = tt
every P h (x ∷ xs) = (h x, every P h xs)

-- A row's numbers, and what stands after them.
side_front : (xs ys n : List ℕ) → 7 ≤ length xs → side_sum (xs ++ ys) n ≡ side_sum xs n
unfolding side_sum
side_front xs ys n h =
    ap₂ ◌+◌
    (total-same 6 (λ f. get_or (xs ++ ys) f 0 * get_or n f 0) (λ f. get_or xs f 0 * get_or n f 0) (λ f l. ap (λ z. z * get_or n f 0) (get_or-append xs ys 0 f (omega arith))))
    (get_or-append xs ys 0 6 (omega arith))

row_front : (row others n : List ℕ) → length row ≡ 14 → row_holds (row ++ others) n ≡ row_holds row n
unfolding row_holds
row_front row others n h =
    let k = length-drop 7 row in
    rw (drop-append-le 7 row others (omega arith), side_front row others n (omega arith), side_front (drop 7 row) others n (omega arith))

-- the first row, and the others
rows_first : (row others : List ℕ) (k : ℕ) (n : List ℕ) → length row ≡ 14 → rows_hold (row ++ others) (suc k) n ≡ (row_holds row n && rows_hold others k n)
unfolding rows_hold from all
rows_first row others k n h =
    ap₂ ◌&&◌ (row_front row others n h)
    (all_shift (λ i. row_holds (drop (14 * i) (row ++ others)) n) 0 k
    ∙ all-agree (λ i. row_holds (drop (14 * suc i) (row ++ others)) n) (λ i. row_holds (drop (14 * i) others) n) (up_to k)
    (every _ (λ i.
    let e : 14 * suc i ≡ length row + 14 * i = omega arith in
    ap (λ z. row_holds z n) (ap (λ z. drop z (row ++ others)) e ∙ drop-append-add row others (14 * i))) (up_to k)))

rows_none : (rows n : List ℕ) → rows_hold rows 0 n ≡ true
unfolding rows_hold all from
rows_none rows n = refl

rows_hold_lem : (rows : List (List ℕ)) (others n : List ℕ) → All (λ row. length row ≡ 14) rows → rows_hold (flat rows ++ others) (length rows) n ≡ all (λ row. row_holds row n) rows
unfolding All each all
rows_hold_lem [] others n h = rows_none others n
rows_hold_lem (row ∷ rows) others n h =
    ap (λ z. rows_hold z (suc (length rows)) n) (append_assoc row (flat rows) others)
    ∙ rows_first row (flat rows ++ others) (length rows) n h.0
    ∙ ap (λ b. row_holds row n && b) (rows_hold_lem rows others n h.1)

-- each gathered row has fourteen numbers
pub equation-row_size : (left right : List Symbol) → length (equation_row left right) ≡ 14
unfolding equation_row from
equation-row_size left right = refl

pub constraint-row_size : (r : Constraint) → length (constraint_row r) ≡ 14
unfolding constraint_row from
constraint-row_size r = refl

pub equation_sizes : (e : Equation) → All (λ row. length row ≡ 14) (equation_rows e)
unfolding All
equation_sizes e = (equation-row_size e.left e.right, (equation-row_size e.right e.left, tt))

pub constraint_sizes : (r : Constraint) → All (λ row. length row ≡ 14) (constraint_rows r)
unfolding All
constraint_sizes r = (constraint-row_size r, tt)

pub gathered_sizes : (s : Sheet) (equations constraints : List Bool) → All (λ row. length row ≡ 14) (gathered s equations constraints)
unfolding gathered
gathered_sizes s equations constraints =
    let P : List ℕ → Type 0 = λ row. length row ≡ 14 in
    let es = asked equations s.equations in
    let rs = asked constraints s.constraints in
    append_in P (each es equation_rows) (each rs constraint_rows)
    (each_in P es equation_rows (every _ equation_sizes es))
    (each_in P rs constraint_rows (every _ constraint_sizes rs))

-- What the gathered rows say, of any substitution.
module _ (s : Sheet) (ok : InRange s) (g : Substitution) where
  six : (x : Symbol) → SymbolIn (length s.letters) (length s.limits) x → SymbolIn (length s.letters) 6 x
  six (letter a) h = h
  six (field f) h = omega (arith, ok.counts_in.of_fields)

  within-six : (t : List Symbol) → TemplateIn (length s.letters) s.limits t → All (SymbolIn (length s.letters) 6) t
  within-six t h = weaken _ _ t six h.symbols

  gathered-holds : (equations constraints : List Bool) → all (λ row. row_holds row (lengths_of g)) (gathered s equations constraints) ≡ lengths_agree s equations constraints g
  unfolding gathered lengths_agree all
  gathered-holds equations constraints =
      let t : List ℕ → Bool = λ row. row_holds row (lengths_of g) in
      let es = asked equations s.equations in
      let rs = asked constraints s.constraints in
      all_append t (each es equation_rows) (each rs constraint_rows)
      ∙ ap₂ ◌&&◌
      (all-each t es equation_rows ∙ all-agree (λ e. all t (equation_rows e)) (sides_agree g) es
      (weaken _ _ es (λ e i. equation_rows_lem g (length s.letters) e (within-six e.left i.left_in) (within-six e.right i.right_in))
      (asked_in _ equations s.equations ok.equations_in)))
      (all-each t rs constraint_rows ∙ all-agree (λ r. all t (constraint_rows r)) (constraint_holds s g) rs
      (weaken _ _ rs (λ r i. and_true (row_holds (constraint_row r) (lengths_of g)) ∙ constraint-row g r s ok.counts_in.of_fields i)
      (asked_in _ constraints s.constraints ok.constraints_in)))

  -- the rows that gathering leaves hold exactly when the lengths agree
  pub gathered_agrees : (equations constraints : List Bool) (before after : List ℕ) (count : ℕ) → Gathered s equations constraints before after count
      → rows_hold after count (lengths_of g) ≡ lengths_agree s equations constraints g
  gathered_agrees equations constraints before after count h =
      let rows = gathered s equations constraints in
      rw (h.written, h.many, placed_front before (flat rows))
      (rows_hold_lem rows (drop (length (flat rows)) before) (lengths_of g) (gathered_sizes s equations constraints) ∙ gathered-holds equations constraints)
