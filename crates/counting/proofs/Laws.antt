-- The parts of specs/Count as the code has them. Assumes nothing.
use mathlib.Core.Path.{◌≡◌, refl, ap, ap₂, sym, ◌∙◌}
use mathlib.Core.List.{List}
use Prim.Native.Nat.{ℕ, zero, suc, ◌+◌, ◌-◌, ◌*◌, ◌<◌, ◌≤◌}
use native.Mathlib.Omega.{arith}
use lib.ListN.{length, get_or}
use borrow.Author.Tests.{lt-ltb, le-ltb}
use Rattle.model.specs.Lists.{total}
use Rattle.model.specs.Sheet.{Sheet, limit, constraint}
use Rattle.model.specs.Range.{InRange}
use Rattle.model.specs.Cells.{Cell, letter, place}
use Rattle.formula.specs.Clause.{blank, fields, cell, left_cells, right_cells, spread, ids}
use Rattle.formula.specs.Kind.{used, cell_side, side}
use Rattle.formula.specs.Count.{location_count, not_both_count, place_count, field_count, location_size, row_count, equation_count, step_count, within, constraint_count, k_clauses, s_clauses, clause_count}
use Rattle.model.proofs.Keeping.{total-none, total-same}
use Rattle.formula.proofs.Small.{letters-few, cells-small}
use Rattle.formula.proofs.Totals.{field-total, clause_count_lem}
use Rattle.shape.specs.Bytes.{side_bytes, side_of}
use Rattle.shape.proofs.Sides.{side-at}
use Rattle.kinds.specs.Census.{Few, AllCells, Counted, row_of}
use Rattle.kinds.specs.declared.Census.{Census}
use Rattle.kinds.proofs.Laws.{counted-few, letter_below, row-counted}
use Rattle.model.proofs.Templates.{well_formed}

-- the clauses of a field with no place, and with some
module _ (s : Sheet) (f : ℕ) (n : ℕ) (is : n ≡ limit s f) where
  pub field-none : n ≡ 0 → field_count s f ≡ 0
  field-none e = ap (λ k. total k (place_count (blank s) k)) (sym is ∙ e) ∙ total-none (place_count (blank s) 0)

  pub field-some : (n ≡ 0 → ⊥) → (l p : ℕ) → l ≡ blank s → p ≡ not_both_count l → n * (2 + p) ≡ field_count s f + 1
  field-some z l p el ep =
      ap₂ (λ x y. x * (2 + y)) is (ep ∙ ap not_both_count el) ∙ sym (field-total (blank s) (limit s f) (omega arith))

-- both
pub field-known : (s : Sheet) (f n l p : ℕ) → n ≡ limit s f → l ≡ blank s → p ≡ not_both_count l → n * (2 + p) - 1 ≡ field_count s f
field-known s f zero l p is el ep =
    let none : field_count s f ≡ 0 = field-none s f zero is refl in
    omega (arith, none)
field-known s f (suc n) l p is el ep =
    let e : suc n * (2 + p) ≡ field_count s f + 1 = field-some s f (suc n) is (λ z. omega arith) l p el ep in
    omega arith

-- The right side of an equation by its bytes: the first are cells, and past them the template is used up.
not_past : (u : Cell) → cell_side u ≡ used → ⊥
not_past (letter a) e = let z : ◌≡◌ {A = ℕ} 0 1 = cc in omega arith
not_past (place f c) e = let z : ◌≡◌ {A = ℕ} 0 1 = cc in omega arith

-- the census of that side, as `counting::survey` promises it
abbrev pub Survey : Sheet → ℕ → Census → Type 0
Survey s p c = Counted (blank s) (side_bytes (right_cells s p)) (length (right_cells s p)) c

module _ (s : Sheet) (ok : InRange s) (p : ℕ) (h : p < length s.equations) where
  abbrev right : List ℕ
  right = side_bytes (right_cells s p)

  abbrev n : ℕ
  n = length (right_cells s p)

  right-cells : AllCells right n
  right-cells j k e =
      let few = (cells-small s ok p h).1 in
      let there = lt-ltb j n k in
      let at : side (right_cells s p) j ≡ used = sym (side-at s ok p h 1 j (omega arith)) ∙ e in
      not_past (cell (right_cells s p) j) (rw there at at)

  right-past : side_of (get_or right n 0) ≡ used
  right-past =
      let few = (cells-small s ok p h).1 in
      side-at s ok p h 1 n few ∙ rw (le-ltb n n (omega arith))

  -- The same of bytes and numbers that are equal to these: what a census asks of them, and what it then is.
  pub bytes_cells : (bytes : List ℕ) (m : ℕ) → bytes ≡ right → m ≡ n → AllCells bytes m
  bytes_cells bytes m eb em = rw (eb, em) right-cells

  pub counted-right : (l : ℕ) (bytes : List ℕ) (m : ℕ) (c : Census) → l ≡ blank s → bytes ≡ right → m ≡ n → Counted l bytes m c → Survey s p c
  counted-right l bytes m c el eb em d = rw (el, eb, em) at d

  -- A census of that side is of few cells, and gives the row with left cell i.
  module _ (c : Census) (d : Survey s p c) where
    pub survey_few : Few c
    survey_few = (counted-few (blank s) right (letters-few s ok) n (cells-small s ok p h).1 c d).0

    pub row-found : (l : ℕ) (left : List ℕ) → l ≡ blank s → left ≡ side_bytes (left_cells s p)
        → (i : ℕ) → i ≤ 24 → row_of l (side_of (get_or left i 0)) c ≡ row_count s p i
    row-found l left el ea i k =
        let few = (cells-small s ok p h).1 in
        let u : ℕ = get_or (side_bytes (left_cells s p)) i 0 in
        ap₂ (λ b x. row_of b (side_of (get_or x i 0)) c) el ea
        ∙ row-counted (blank s) right n c d right-cells right-past (side_of u) (letter_below u)
        ∙ total-same (suc n) _ (location_size s p i) (λ j m. ap₂ (location_count (blank s)) (side-at s ok p h 0 i k) (side-at s ok p h 1 j (omega arith)))

pub equation-known : (s : Sheet) (p : ℕ) → equation_count s p ≡ 1 + total (suc (length (left_cells s p))) (row_count s p)
unfolding equation_count
equation-known s p = refl

-- the clauses of a step, of a constraint, and all
pub step_known : (s : Sheet) (r k n m : ℕ) → n ≡ spread s (constraint s r) k → m ≡ limit s k → (n + 1) * (m + 1) ≡ step_count s r k
step_known s r k n m en em =
    let a : n + 1 ≡ suc (spread s (constraint s r) k) = omega arith in
    let b : m + 1 ≡ suc (limit s k) = omega arith in
    ap₂ ◌*◌ a b

pub constraint-known : (s : Sheet) (r : ℕ) → constraint_count s r
    ≡ 1 + (total (fields s) (step_count s r) + (suc (spread s (constraint s r) (fields s)) - within s (constraint s r)))
unfolding constraint_count
constraint-known s r = refl

pub clauses_known : (s : Sheet) → InRange s → length (ids s) ≡ k_clauses s + (s_clauses s + total (length s.constraints) (constraint_count s))
unfolding clause_count
clauses_known s ok = clause_count_lem s (well_formed s ok)
