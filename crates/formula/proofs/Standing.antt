-- Which clauses of a location are not left out, and how many: the tables of specs/Count. Assumes nothing.
use mathlib.Core.Path.{◌≡◌, refl, sym, ap, ap₂, ◌∙◌}
use mathlib.Core.Bool.{Bool, true, false, not, ◌&&◌, ◌||◌}
use mathlib.Core.List.{List, [], ◌∷◌, ◌++◌, map, append-nil}
use Prim.Native.Nat.{ℕ, suc, ◌-◌, ◌<◌, ◌≤◌}
use native.Mathlib.Omega.{arith}
use lib.Dec.{ltb, eqb}
use lib.ListN.{length, length-append, length-map}
use borrow.Author.Tests.{ltb-true, ltb-false, eqb-true, eqb-false, eq-eqb, ne_eqb}
use Rattle.model.specs.Lists.{pick, from, up_to, any, when, keep}
use Rattle.model.specs.Sheet.{Sheet}
use Rattle.model.specs.Range.{WellFormed}
use Rattle.model.specs.Cells.{Cell, letter, place}
use Rattle.formula.specs.Clause.{Term, holds, lacks, is_blank, not_blank, only, ClauseId, Left, Right, Both, Match, End, terms, sure, left_out, stays, location_ids, blank, cell, left_cells, right_cells}
use Rattle.formula.specs.Kind.{SideIn, Side, used, at_letter, at_field, cell_side, side}
use Rattle.formula.specs.Count.{standing, location_count}
use Rattle.model.proofs.Lists.{by_test, and_split, at, or_false}
use Rattle.formula.proofs.Valid.{CellIn, cell_in}
use Rattle.model.proofs.Keeping.{from_in, below_in, length_from, keep_append, keep-map, keep-when, keep-yes, keep-no, keep_all, keep-none, keep_below, keep_around, keep_one}

-- A side of a location has a letter below l, if it has a letter.
cell-side_in : (s : Sheet) (u : Cell) → CellIn s u → SideIn (blank s) (cell_side u)
cell-side_in s (letter a) h = h
cell-side_in s (place f c) h = tt

side_in : (s : Sheet) (us : List Cell) (i : ℕ) → (i < length us → CellIn s (cell us i)) → SideIn (blank s) (side us i)
side_in s us i h = by_test (ltb i (length us))
    (λ e. rw e (cell-side_in s (cell us i) (h (ltb-true i (length us) e))))
    (λ e. rw e tt)

pub sides_in : (s : Sheet) → WellFormed s → (p : ℕ) → p < length s.equations → (i j : ℕ)
    → SideIn (blank s) (side (left_cells s p) i) × SideIn (blank s) (side (right_cells s p) j)
sides_in s ok p h i j = (side_in s (left_cells s p) i (cell_in s ok p h 0 i), side_in s (right_cells s p) j (cell_in s ok p h 1 j))

-- Which terms are always true through a letter cell.
abbrev is_letter : Cell → Bool
is_letter (letter a) = true
is_letter (place f c) = false

sure-blank : (s : Sheet) (u : Cell) → sure (is_blank s u) ≡ false
sure-blank s (letter a) = refl
sure-blank s (place f c) = refl

sure-not_blank : (s : Sheet) (u : Cell) → sure (not_blank s u) ≡ is_letter u
sure-not_blank s (letter a) = refl
sure-not_blank s (place f c) = refl

pub sure-only : (b : Bool) (t : Term) → sure t ≡ false → sure (only b t) ≡ false
sure-only true t e = e
sure-only false t e = refl

-- The letters whose E clause is not left out.
abbrev matches : Cell → Cell → ℕ → Bool
matches u v x = not (sure (lacks u x) || sure (holds v x))

not_not : (a : Bool) → not (not a || false) ≡ a
not_not true = refl
not_not false = refl

module _ (s : Sheet) (p i j : ℕ) where
  abbrev u : Cell
  u = cell (left_cells s p) i

  abbrev v : Cell
  v = cell (right_cells s p) j

  stays-left : stays s (Left p i j) ≡ not (is_letter u)
  unfolding left_out terms any
  stays-left = ap not (or_false (sure (not_blank s u)) ∙ sure-not_blank s u)

  stays-right : stays s (Right p i j) ≡ not (is_letter v)
  unfolding left_out terms any
  stays-right =
      rw (sure-only (ltb i (length (left_cells s p))) (is_blank s u) (sure-blank s u))
      (ap not (or_false (sure (not_blank s v)) ∙ sure-not_blank s v))

  stays_both : stays s (Both p i j) ≡ true
  unfolding left_out terms any
  stays_both = rw (sure-blank s u, sure-blank s v)

  stays_match : (x : ℕ) → stays s (Match p i j x) ≡ matches u v x
  unfolding left_out terms any
  stays_match x = rw (sure-blank s v) (ap (λ z. not (sure (lacks u x) || z)) (or_false (sure (holds v x))))

  stays-end : stays s (End p i j) ≡ true
  unfolding left_out terms any
  stays-end =
      rw (
        sure-only (ltb i (length (left_cells s p))) (is_blank s u) (sure-blank s u),
        sure-only (ltb j (length (right_cells s p))) (is_blank s v) (sure-blank s v),
      )

-- The letters below l: only one, or all but one.
only_one : (a l : ℕ) → a < l → keep (eqb a) (up_to l) ≡ a ∷ []
only_one a l h = keep_one (eqb a) l a h (eq-eqb a a refl) (λ b _ q. sym (eqb-true a b q))

all_but : (b l : ℕ) → b < l → keep (λ x. not (eqb b x)) (up_to l) ≡ up_to b ++ from (suc b) (l - suc b)
all_but b l h =
    let t : ℕ → Bool = λ x. not (eqb b x) in
    keep_around t b l h
    ∙ ap₂ ◌++◌
    (keep_all t (up_to b) (below_in (λ x. t x ≡ true) b (λ x k. ap not (ne_eqb b x (λ e. omega arith)))))
    (keep-no t b (from (suc b) (l - suc b)) (ap not (eq-eqb b b refl))
    ∙ keep_all t (from (suc b) (l - suc b))
    (from_in (λ x. t x ≡ true) (suc b) (l - suc b) (λ x low high. ap not (ne_eqb b x (λ e. omega arith)))))

both_tests : (a b : ℕ) → (a ≡ b → ⊥) → (x : ℕ) → not (not (eqb a x) || eqb b x) ≡ eqb a x
both_tests a b ne x = by_test (eqb a x)
    (λ e. let q = eqb-true a x e in rw (e, ne_eqb b x (λ z. ne (q ∙ sym z))))
    (λ e. rw e)

same_tests : (a b : ℕ) → a ≡ b → (x : ℕ) → not (not (eqb a x) || eqb b x) ≡ false
same_tests a b q x = rw (← q) (by_test (eqb a x) (λ e. rw e) (λ e. rw e))

-- They are those of the table.
abbrev letters_of : ℕ → Side → Side → List ℕ
letters_of l used v = []
letters_of l (at_letter a) used = []
letters_of l (at_letter a) (at_letter b) = pick (eqb a b) [] (a ∷ [])
letters_of l (at_letter a) at_field = a ∷ []
letters_of l at_field used = []
letters_of l at_field (at_letter b) = up_to b ++ from (suc b) (l - suc b)
letters_of l at_field at_field = up_to l

letters_are : (l : ℕ) (u v : Cell) → SideIn l (cell_side u) → SideIn l (cell_side v) → keep (matches u v) (up_to l) ≡ letters_of l (cell_side u) (cell_side v)
letters_are l (letter a) (letter b) h k = by_test (eqb a b)
    (λ e. rw e (keep-none (matches (letter a) (letter b)) (up_to l)
    (below_in (λ x. matches (letter a) (letter b) x ≡ false) l (λ x m. same_tests a b (eqb-true a b e) x))))
    (λ e. rw e (keep_below (matches (letter a) (letter b)) (eqb a) l (λ x _. both_tests a b (eqb-false a b e) x) ∙ only_one a l h))
letters_are l (letter a) (place f c) h k =
    keep_below (matches (letter a) (place f c)) (eqb a) l (λ x _. not_not (eqb a x)) ∙ only_one a l h
letters_are l (place f c) (letter b) h k = all_but b l k
letters_are l (place f c) (place g d) h k = keep_all (λ x. true) (up_to l) (below_in (λ x. true ≡ true) l (λ x m. refl))

-- One clause under two tests, and the end of a side.
keep_under : {A : Type 0} (t : A → Bool) (x : A) (b : Bool) → t x ≡ b → keep t (x ∷ []) ≡ when b (x ∷ [])
unfolding keep
keep_under t x true e = rw e
keep_under t x false e = rw e

at-end : (i m : ℕ) → i ≤ m → eqb i m ≡ not (ltb i m)
at-end i m h = by_test (ltb i m)
    (λ e. let k = ltb-true i m e in rw e (ne_eqb i m (λ q. omega arith)))
    (λ e. let k = ltb-false i m e in rw e (eq-eqb i m (omega arith)))

when_under : {A : Type 0} (b : Bool) {xs ys : List A} → (b ≡ true → xs ≡ ys) → when b xs ≡ when b ys
when_under true f = f refl
when_under false f = refl

module _ (l p i j : ℕ) where
  -- the four parts of a location, and the table
  abbrev parts : Bool → Bool → Cell → Cell → List ClauseId
  parts bi bj u v =
      when bi (when (not (is_letter u)) (Left p i j ∷ []))
      ++ (when bj (when (not (is_letter v)) (Right p i j ∷ []))
      ++ (when (bi && bj) (Both p i j ∷ map (Match p i j) (letters_of l (cell_side u) (cell_side v)))
      ++ when (not bi && bj || bi && not bj) (End p i j ∷ [])))

  table : (bi bj : Bool) (u v : Cell) → parts bi bj u v ≡ standing l p i j (pick bi (cell_side u) used) (pick bj (cell_side v) used)
  table true true (letter a) (letter b) = by_test (eqb a b) (λ e. rw e) (λ e. rw e)
  table true true (letter a) (place f c) = refl
  table true true (place f c) (letter b) =
      ap (λ z. Left p i j ∷ Both p i j ∷ z) (append-nil (map (Match p i j) (up_to b ++ from (suc b) (l - suc b))))
  table true true (place f c) (place g d) =
      ap (λ z. Left p i j ∷ Right p i j ∷ Both p i j ∷ z) (append-nil (map (Match p i j) (up_to l)))
  table true false (letter a) v = refl
  table true false (place f c) v = refl
  table false true u (letter b) = refl
  table false true u (place f c) = refl
  table false false u v = refl

-- The clauses of a location that are not left out.
module _ (s : Sheet) (ok : WellFormed s) (p : ℕ) (hp : p < length s.equations) where
  pub standing-is : (i j : ℕ) → i ≤ length (left_cells s p) → j ≤ length (right_cells s p)
      → keep (stays s) (location_ids s p (length (left_cells s p)) (length (right_cells s p)) i j)
      ≡ standing (blank s) p i j (side (left_cells s p) i) (side (right_cells s p) j)
  unfolding location_ids
  standing-is i j hi hj =
      let t : ClauseId → Bool = stays s in
      let u : Cell = cell (left_cells s p) i in
      let v : Cell = cell (right_cells s p) j in
      let m : ℕ = length (left_cells s p) in
      let n : ℕ = length (right_cells s p) in
      let bi : Bool = ltb i m in
      let bj : Bool = ltb j n in
      let ends : Bool = eqb i m && bj || bi && eqb j n in
      let d : List ClauseId = Both p i j ∷ map (Match p i j) (up_to (blank s)) in
      let f : List ClauseId = when ends (End p i j ∷ []) in
      let in_range = sides_in s ok p hp i j in
      let matched : bi && bj ≡ true → keep t d ≡ Both p i j ∷ map (Match p i j) (letters_of (blank s) (cell_side u) (cell_side v)) = λ e.
      let r = and_split bi bj e in
      keep-yes t (Both p i j) (map (Match p i j) (up_to (blank s))) (stays_both s p i j)
      ∙ ap (λ z. Both p i j ∷ z)
      (keep-map t (Match p i j) (up_to (blank s))
      ∙ ap (map (Match p i j))
      (keep_below (λ x. t (Match p i j x)) (matches u v) (blank s) (λ x _. stays_match s p i j x)
      ∙ letters_are (blank s) u v (rw r.0 at in_range.0) (rw r.1 at in_range.1))) in
      keep_append t (when bi (Left p i j ∷ [])) (when bj (Right p i j ∷ []) ++ (when (bi && bj) d ++ f))
      ∙ ap₂ ◌++◌ (keep-when t bi (Left p i j ∷ []) ∙ ap (when bi) (keep_under t (Left p i j) (not (is_letter u)) (stays-left s p i j)))
      (keep_append t (when bj (Right p i j ∷ [])) (when (bi && bj) d ++ f)
      ∙ ap₂ ◌++◌ (keep-when t bj (Right p i j ∷ []) ∙ ap (when bj) (keep_under t (Right p i j) (not (is_letter v)) (stays-right s p i j)))
      (keep_append t (when (bi && bj) d) f
      ∙ ap₂ ◌++◌ (keep-when t (bi && bj) d ∙ when_under (bi && bj) matched)
      (keep-when t ends (End p i j ∷ [])
      ∙ ap₂ when (ap₂ (λ x y. x && bj || bi && y) (at-end i m hi) (at-end j n hj)) (keep_under t (End p i j) true (stays-end s p i j)))))
      ∙ table (blank s) p i j bi bj u v

-- How many they are.
pub standing-count : (l p i j : ℕ) (u v : Side) → SideIn l u → SideIn l v → length (standing l p i j u v) ≡ location_count l u v
standing-count l p i j used used h k = refl
standing-count l p i j used (at_letter b) h k = refl
standing-count l p i j used at_field h k = refl
standing-count l p i j (at_letter a) used h k = refl
standing-count l p i j (at_letter a) (at_letter b) h k = by_test (eqb a b) (λ e. rw e) (λ e. rw e)
standing-count l p i j (at_letter a) at_field h k = refl
standing-count l p i j at_field used h k = refl
standing-count l p i j at_field (at_letter b) h k =
    let e = length-map (up_to b ++ from (suc b) (l - suc b)) (Match p i j) in
    let d = length-append (up_to b) (from (suc b) (l - suc b)) in
    let x = length_from 0 b in
    let y = length_from (suc b) (l - suc b) in
    omega arith
standing-count l p i j at_field at_field h k =
    let e = length-map (up_to l) (Match p i j) in
    let x = length_from 0 l in
    omega arith
