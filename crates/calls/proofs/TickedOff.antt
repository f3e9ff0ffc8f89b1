-- Document 02, No. 2 (docs/02-change-requests.md), "Clause counts a fitter can tick off", each sentence above the theorems that state it. They are of the
-- bytes of every accepted sheet, whatever its number of letters L. Assumes nothing.
use mathlib.Core.Path.{◌≡◌, refl, ap, ap₂, ◌∙◌}
use mathlib.Core.List.{List, [], ◌∷◌}
use Prim.Native.Nat.{ℕ, suc, ◌+◌, ◌*◌, ◌<◌, ◌≤◌}
use native.Mathlib.Omega.{arith}
use lib.Dec.{ltb}
use lib.ListN.{length}
use lib.Signed.{lt_z}
use borrow.Author.Tests.{lt-ltb, le-ltb, eq-eqb, ne_eqb}
use Rattle.model.specs.Lists.{pick, keep, total, Bytes}
use Rattle.model.specs.Sheet.{Accepted, sheet_of, limit, constraint}
use Rattle.model.specs.Cells.{Cell, letter, place}
use Rattle.formula.specs.Clause.{cell, stays, ids, location_ids, sums, blank, fields, left_cells, right_cells}
use Rattle.formula.specs.Kind.{Side, used, cell_side, side, Kind, same_letter_twice, different_letters, letter_then_field, field_then_letter, two_fields, used_up_before_letter, used_up_before_field, both_used_up, kind, kind_count, kind_at, locations_of}
use Rattle.formula.specs.Count.{not_both_count}
use Rattle.formula.specs.Numbering.{variables}
use Rattle.formula.specs.Dimacs.{file_size}
use Rattle.calls.specs.Calls.{finished, counting}
use Rattle.model.proofs.Templates.{well_formed}
use Rattle.model.proofs.Known.{accepted_in_range}
use Rattle.formula.proofs.Ticked.{location_kind, kinds_all, adds_up, pairs_twice}
use Rattle.calls.proofs.Operations.{counting_counts}

-- Cell i of a template is this one; or the template is used up there.
abbrev pub Has : List Cell → ℕ → Cell → Type 0
Has us i u = (i < length us) × (cell us i ≡ u)

abbrev pub UsedUp : List Cell → ℕ → Type 0
UsedUp us i = i ≡ length us

has_side : (us : List Cell) (i : ℕ) (u : Cell) → Has us i u → side us i ≡ cell_side u
has_side us i u h = rw (lt-ltb i (length us) h.0) (ap cell_side h.1)

used-side : (us : List Cell) (i : ℕ) → UsedUp us i → side us i ≡ used
used-side us i e = rw (le-ltb i (length us) (omega arith))

module _ (b : List ℕ) (y : Bytes b) (ok : Accepted b) where
  -- "the number of clauses at a location": of those that document 01 lists at location (i, j) of pair p, and does not leave out
  abbrev clauses_at : ℕ → ℕ → ℕ → ℕ
  clauses_at p i j =
      length (keep (stays (sheet_of b)) (location_ids (sheet_of b) p (length (left_cells (sheet_of b) p)) (length (right_cells (sheet_of b) p)) i j))

  module _ (p : ℕ) (hp : p < length (sheet_of b).equations) (i j : ℕ) (hi : i ≤ length (left_cells (sheet_of b) p)) (hj : j ≤ length (right_cells (sheet_of b) p)) where
    -- "written as cases"
    pub counted_by_its_kind : clauses_at p i j ≡ kind_count (blank (sheet_of b)) (kind_at (sheet_of b) p i j)
    counted_by_its_kind = location_kind (sheet_of b) (well_formed (sheet_of b) (accepted_in_range b y ok)) p hp i j hi hj

    -- the kind of a location and, by it, the number of its clauses
    abbrev Case : Kind → ℕ → Type 0
    Case k n = (kind_at (sheet_of b) p i j ≡ k) × (clauses_at p i j ≡ n)

    with_sides : (u v : Side) → side (left_cells (sheet_of b) p) i ≡ u → side (right_cells (sheet_of b) p) j ≡ v → (k : Kind) → kind u v ≡ k → Case k (kind_count (blank (sheet_of b)) k)
    with_sides u v eu ev k e =
        let is = ap₂ kind eu ev ∙ e in
        (is, counted_by_its_kind ∙ ap (kind_count (blank (sheet_of b))) is)

    abbrev LeftHas : Cell → Type 0
    LeftHas u = Has (left_cells (sheet_of b) p) i u

    abbrev RightHas : Cell → Type 0
    RightHas v = Has (right_cells (sheet_of b) p) j v

    -- with a cell on both sides
    with_cells : (u v : Cell) → LeftHas u → RightHas v → (k : Kind) → kind (cell_side u) (cell_side v) ≡ k → Case k (kind_count (blank (sheet_of b)) k)
    with_cells u v hu hv = with_sides (cell_side u) (cell_side v) (has_side (left_cells (sheet_of b) p) i u hu) (has_side (right_cells (sheet_of b) p) j v hv)

    -- "Same letter twice: 1."
    pub same-letter_twice : (a : ℕ) → LeftHas (letter a) → RightHas (letter a) → Case same_letter_twice 1
    same-letter_twice a hu hv = with_cells (letter a) (letter a) hu hv same_letter_twice (rw (eq-eqb a a (omega arith)))

    -- "Different letters: 2."
    pub different_letters_lem : (a c : ℕ) → (a ≡ c → ⊥) → LeftHas (letter a) → RightHas (letter c) → Case different_letters 2
    different_letters_lem a c ne hu hv = with_cells (letter a) (letter c) hu hv different_letters (rw (ne_eqb a c ne))

    -- "Letter then field: 3."
    pub letter_then_field_lem : (a f c : ℕ) → LeftHas (letter a) → RightHas (place f c) → Case letter_then_field 3
    letter_then_field_lem a f c hu hv = with_cells (letter a) (place f c) hu hv letter_then_field refl

    -- "Field then letter: L+1."
    pub field_then_letter_lem : (f c a : ℕ) → LeftHas (place f c) → RightHas (letter a) → Case field_then_letter (blank (sheet_of b) + 1)
    field_then_letter_lem f c a hu hv = with_cells (place f c) (letter a) hu hv field_then_letter refl

    -- "Two fields: L+3."
    pub two_fields_lem : (f c g d : ℕ) → LeftHas (place f c) → RightHas (place g d) → Case two_fields (blank (sheet_of b) + 3)
    two_fields_lem f c g d hu hv = with_cells (place f c) (place g d) hu hv two_fields refl

    -- "One template used up: 1 before a letter, 2 before a field.": the left one, or the right one
    abbrev LeftUsedUp : Type 0
    LeftUsedUp = UsedUp (left_cells (sheet_of b) p) i

    abbrev RightUsedUp : Type 0
    RightUsedUp = UsedUp (right_cells (sheet_of b) p) j

    left-past : (v : Cell) → LeftUsedUp → RightHas v → (k : Kind) → kind used (cell_side v) ≡ k → Case k (kind_count (blank (sheet_of b)) k)
    left-past v e hv = with_sides used (cell_side v) (used-side (left_cells (sheet_of b) p) i e) (has_side (right_cells (sheet_of b) p) j v hv)

    right-past : (u : Cell) → LeftHas u → RightUsedUp → (k : Kind) → kind (cell_side u) used ≡ k → Case k (kind_count (blank (sheet_of b)) k)
    right-past u hu e = with_sides (cell_side u) used (has_side (left_cells (sheet_of b) p) i u hu) (used-side (right_cells (sheet_of b) p) j e)

    pub left-used_up_before-a-letter : (a : ℕ) → LeftUsedUp → RightHas (letter a) → Case used_up_before_letter 1
    left-used_up_before-a-letter a e hv = left-past (letter a) e hv used_up_before_letter refl

    pub right-used_up_before-a-letter : (a : ℕ) → LeftHas (letter a) → RightUsedUp → Case used_up_before_letter 1
    right-used_up_before-a-letter a hu e = right-past (letter a) hu e used_up_before_letter refl

    pub left-used_up_before-a-field : (f c : ℕ) → LeftUsedUp → RightHas (place f c) → Case used_up_before_field 2
    left-used_up_before-a-field f c e hv = left-past (place f c) e hv used_up_before_field refl

    pub right-used_up_before-a-field : (f c : ℕ) → LeftHas (place f c) → RightUsedUp → Case used_up_before_field 2
    right-used_up_before-a-field f c hu e = right-past (place f c) hu e used_up_before_field refl

    -- "Both used up: 0."
    pub both_used_up_lem : LeftUsedUp → RightUsedUp → Case both_used_up 0
    both_used_up_lem eu ev = with_sides used used (used-side (left_cells (sheet_of b) p) i eu) (used-side (right_cells (sheet_of b) p) j ev) both_used_up refl

  -- "The counts themselves are those already promised.": what counting answers adds up from these. C is the sum of: for each field, at each of its places 1,
  -- the pairs of two values, and 1 if another place follows; for each pair 1 for S(p,0,0) and, for each kind, its locations times its number; for each rule 1
  -- for T(r,0,0), its steps, which are sums times lengths, and its final sums above the limit.
  pub clauses_add_up :
      let s = sheet_of b in
      let l = blank s in
      let n = locations_of s in
      (counting b ≡ finished (length (variables s) ∷ length (ids s) ∷ file_size s ∷ []))
      × (length (ids s)
      ≡ total (fields s) (λ f. total (limit s f) (λ c. 1 + (not_both_count l + pick (ltb (suc c) (limit s f)) 1 0)))
      + (total (length s.equations) (λ p. 1
      + (n p same_letter_twice * 1
      + (n p different_letters * 2
      + (n p letter_then_field * 3
      + (n p field_then_letter * (l + 1)
      + (n p two_fields * (l + 3)
      + (n p used_up_before_letter * 1
      + (n p used_up_before_field * 2
      + n p both_used_up * 0))))))))
      + total (length s.constraints) (λ r. 1
      + (total (fields s) (λ k. length (sums s (constraint s r) k) * suc (limit s k))
      + length (keep (lt_z (constraint s r).most) (sums s (constraint s r) (fields s)))))))
  clauses_add_up = (counting_counts b ok, adds_up (sheet_of b) (well_formed (sheet_of b) (accepted_in_range b y ok)))

  -- the locations of all kinds together are (m + 1) × (n + 1)
  pub locations_add_up : (p : ℕ) →
      let n = locations_of (sheet_of b) p in
      n same_letter_twice * 1 + (n different_letters * 1 + (n letter_then_field * 1 + (n field_then_letter * 1 + (n two_fields * 1 + (n used_up_before_letter * 1 + (n used_up_before_field * 1 + n both_used_up * 1))))))
      ≡ suc (length (left_cells (sheet_of b) p)) * suc (length (right_cells (sheet_of b) p))
  locations_add_up p = kinds_all (sheet_of b) p

  -- the pairs of two values, of L letters and blank, are half of L times L + 1
  pub pairs_of_values : 2 * not_both_count (blank (sheet_of b)) ≡ blank (sheet_of b) * suc (blank (sheet_of b))
  pairs_of_values = pairs_twice (blank (sheet_of b))
