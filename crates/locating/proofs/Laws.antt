-- Searching through parts by their sizes; the clauses of a location as the code has them. Assumes nothing.
use mathlib.Core.Path.{◌≡◌, refl, sym, ap, ap₂, subst, ◌∙◌}
use mathlib.Core.List.{List, [], ◌∷◌, ◌++◌, map}
use Prim.Native.Nat.{ℕ, suc, ◌+◌, ◌-◌, ◌<◌, ◌≤◌}
use native.Mathlib.Omega.{arith}
use lib.Dec.{eqb}
use lib.ListN.{length, get_or}
use borrow.Author.Tests.{eqb-true, eqb-false}
use Rattle.model.specs.Lists.{pick, from, up_to, total}
use Rattle.model.specs.Sheet.{Sheet}
use Rattle.model.specs.Range.{InRange}
use Rattle.formula.specs.Clause.{ClauseId, Start, Left, Both, Match, id_at, blank, left_cells, right_cells, none}
use Rattle.formula.specs.Kind.{Side, used, at_letter, at_field, SideIn, side}
use Rattle.formula.specs.Count.{standing, location_count, location_size, row_count, equation_start}
use Rattle.model.proofs.Lists.{by_test}
use Rattle.model.proofs.Keeping.{length-map-from, map-from-at, map-append, first-at, second_at, total-more, total-none}
use Rattle.formula.proofs.Small.{cells-small}
use Rattle.formula.proofs.Standing.{sides_in}
use Rattle.formula.proofs.Finding.{start-at, location_at}
use Rattle.shape.specs.Bytes.{side_bytes, side_of}
use Rattle.shape.proofs.Sides.{side-at, says_field}
use Rattle.model.proofs.Templates.{well_formed}

-- A search for number n through parts of sizes h: before the first part, past part i, and past the last part, where no number is.
module _ (h : ℕ → ℕ) (n : ℕ) where
  pub at_first : total 0 h + n ≡ n
  at_first = omega (arith, total-none h)

  pub at_next : (i k size : ℕ) → total i h + k ≡ n → size ≡ h i → size ≤ k → total (i + 1) h + (k - size) ≡ n
  at_next i k size e is l = omega (arith, total-more i h)

  pub never_past : {A : Type 0} (m i k : ℕ) → n < total m h → i ≡ m → total i h + k ≡ n → A
  never_past m i k l e q = let p = ap (λ j. total j h) e in absurd (omega arith)

-- the clause of a number, by the same number in another form
pub same_number : (s : Sheet) (q : ClauseId) (m n : ℕ) → q ≡ id_at s m → m ≡ n → q ≡ id_at s n
same_number s q m n h e = h ∙ ap (λ k. id_at s k) e

-- The clauses of a location, by what its two sides have.
module _ (l p i j : ℕ) (x y : Side) (n : ℕ) (inside : n < location_count l x y) where
  pub found : (a b : Side) → x ≡ a → y ≡ b → (q : ClauseId)
      → (n < location_count l a b → q ≡ get_or (standing l p i j a b) n none) → q ≡ get_or (standing l p i j x y) n none
  found a b ex ey q h =
      let few = subst (λ t. n < location_count l a t) ey (subst (λ t. n < location_count l t y) ex inside) in
      h few ∙ sym (ap₂ (λ s t. get_or (standing l p i j s t) n none) ex ey)

  -- by its number
  pub found_at : (a b : Side) → x ≡ a → y ≡ b → (k : ℕ) → (n < location_count l a b → n ≡ k)
      → get_or (standing l p i j a b) k none ≡ get_or (standing l p i j x y) n none
  found_at a b ex ey k h = found a b ex ey _ (λ few. ap (λ m. get_or (standing l p i j a b) m none) (sym (h few)))

-- no clause where both sides are used up
pub right-field : (l u v n : ℕ) → n < location_count l (side_of u) (side_of v) → side_of u ≡ used → 8 ≤ v → side_of v ≡ at_field
right-field l u v n inside eu h = by_test (eqb v 255)
    (λ e.
    let k = subst (λ x. n < location_count l x (side_of v)) eu inside in
    let m : n < 0 = subst (λ y. n < location_count l used (side_of y)) (eqb-true v 255 e) k in
    absurd (omega arith))
    (λ e. says_field v h (eqb-false v 255 e))

-- The clauses of a location that are not at a fixed place of the table: with a field's place on the left, B comes first.
module _ (l p i j n : ℕ) where
  pub left-first : (b : Side) → n ≡ 0 → Left p i j ≡ get_or (standing l p i j at_field b) n none
  left-first used z = rw z
  left-first (at_letter b) z = rw z
  left-first at_field z = rw z

  -- the clauses E: of a letter against another, and of a field's place against a letter and against another place
  pub letters_differ : (a b : ℕ) → (n ≡ 0 → ⊥) → n < location_count l (at_letter a) (at_letter b)
      → Match p i j a ≡ get_or (standing l p i j (at_letter a) (at_letter b)) n none
  letters_differ a b z h = by_test (eqb a b)
      (λ e. absurd (omega (arith, rw e at h)))
      (λ e.
      let k = rw e at h in
      let one : 1 ≡ n = omega arith in
      ap (λ m. get_or (Both p i j ∷ Match p i j a ∷ []) m none) one
      ∙ ap (λ t. get_or (Both p i j ∷ pick t [] (Match p i j a ∷ [])) n none) (sym e))

  module _ (b : ℕ) (more : 2 ≤ n) where
    abbrev before : List ClauseId
    before = map (Match p i j) (up_to b)

    abbrev after : List ClauseId
    after = map (Match p i j) (from (suc b) (l - suc b))

    past_two : (m : ℕ) → m ≡ n - 2 → get_or (standing l p i j at_field (at_letter b)) n none ≡ get_or (before ++ after) m none
    past_two m e =
        let k : n ≡ suc (suc m) = omega arith in
        ap (λ z. get_or (standing l p i j at_field (at_letter b)) z none) k
        ∙ ap (λ (xs : List ClauseId). get_or xs m none) (map-append (Match p i j) (up_to b) (from (suc b) (l - suc b)))

    pub letter-before : n - 2 < b → Match p i j (n - 2) ≡ get_or (standing l p i j at_field (at_letter b)) n none
    letter-before h =
        let e : n - 2 ≡ 0 + (n - 2) = omega arith in
        sym (past_two (n - 2) refl ∙ first-at none before after b (n - 2) (length-map-from (Match p i j) 0 b) h
        ∙ map-from-at (Match p i j) none 0 b (n - 2) h ∙ ap (Match p i j) (sym e))

    pub letter_after : b ≤ n - 2 → b < l → n < location_count l at_field (at_letter b)
        → Match p i j (n - 1) ≡ get_or (standing l p i j at_field (at_letter b)) n none
    letter_after h below few =
        let m : ℕ = n - 2 - b in
        let e : suc b + m ≡ n - 1 = omega arith in
        sym (past_two (b + m) (omega arith) ∙ second_at none before after b m (length-map-from (Match p i j) 0 b)
        ∙ map-from-at (Match p i j) none (suc b) (l - suc b) m (omega arith) ∙ ap (Match p i j) e)

  pub letter-any : 3 ≤ n → n < location_count l at_field at_field → Match p i j (n - 3) ≡ get_or (standing l p i j at_field at_field) n none
  letter-any more few =
      let k : n ≡ suc (suc (suc (n - 3))) = omega arith in
      let e : n - 3 ≡ 0 + (n - 3) = omega arith in
      sym (ap (λ z. get_or (standing l p i j at_field at_field) z none) k
      ∙ map-from-at (Match p i j) none 0 l (n - 3) (omega arith) ∙ ap (Match p i j) (sym e))

-- A location's two sides by their bytes, as the sheet has them.
module _ (s : Sheet) (ok : InRange s) (p : ℕ) (hp : p < length s.equations) (i : ℕ) (hi : i ≤ length (left_cells s p)) where
  -- with l letters, the byte u on the left and the bytes on the right
  module _ (l u : ℕ) (right : List ℕ) (el : l ≡ blank s) (eu : u ≡ get_or (side_bytes (left_cells s p)) i 0) (er : right ≡ side_bytes (right_cells s p)) where
    left_is : side_of u ≡ side (left_cells s p) i
    left_is = ap side_of eu ∙ side-at s ok p hp 0 i (omega (arith, hi, (cells-small s ok p hp).0))

    module _ (j : ℕ) (hj : j ≤ length (right_cells s p)) where
      right_is : side_of (get_or right j 0) ≡ side (right_cells s p) j
      right_is = ap (λ b. side_of (get_or b j 0)) er ∙ side-at s ok p hp 1 j (omega (arith, hj, (cells-small s ok p hp).1))

      pub location_known : location_count l (side_of u) (side_of (get_or right j 0)) ≡ location_size s p i j
      location_known = rw el (ap₂ (location_count (blank s)) left_is right_is)

      pub sides-known : SideIn l (side_of u) × SideIn l (side_of (get_or right j 0))
      sides-known =
          let r = sides_in s (well_formed s ok) p hp i j in
          rw (el, left_is, right_is) (r.0, r.1)

      pub location_found : (n k : ℕ) (q : ClauseId) → total j (location_size s p i) + k ≡ n → k < location_size s p i j
          → q ≡ get_or (standing l p i j (side_of u) (side_of (get_or right j 0))) k none
          → q ≡ id_at s (equation_start s p + (1 + (total i (row_count s p) + n)))
      location_found n k q e few h =
          h ∙ ap (λ m. get_or (standing m p i j (side_of u) (side_of (get_or right j 0))) k none) el
          ∙ ap₂ (λ x y. get_or (standing (blank s) p i j x y) k none) left_is right_is
          ∙ sym (location_at s (well_formed s ok) p hp i j k hi hj few)
          ∙ ap (λ m. id_at s (equation_start s p + (1 + (total i (row_count s p) + m)))) e

-- the first clause of an equation
pub start-found : (s : Sheet) → InRange s → (p : ℕ) → p < length s.equations → (n : ℕ) → n ≡ 0 → Start p ≡ id_at s (equation_start s p + n)
start-found s ok p hp n z = same_number s (Start p) (equation_start s p) (equation_start s p + n) (sym (start-at s (well_formed s ok) p hp)) (omega arith)
