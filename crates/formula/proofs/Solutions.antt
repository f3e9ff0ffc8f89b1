-- The clauses ask the sheet's question, over named variables: an assignment that meets them spells a solution, and the valuation of a
-- solution meets them. Assumes nothing but that each symbol names a letter or a field that the sheet has.
use mathlib.Core.Path.{◌≡◌, refl, sym, ◌∙◌}
use mathlib.Core.List.{List, [], map}
use Prim.Native.Nat.{ℕ, ◌<◌, ◌≤◌}
use native.Mathlib.Omega.{arith}
use lib.Dec.{eqb}
use lib.IntN.{pos}
use lib.ListN.{length, get_or, length-map, get_or-map}
use Rattle.model.specs.Lists.{All}
use Rattle.model.specs.Sheet.{Sheet, equation, template, constraint}
use Rattle.model.specs.Range.{WellFormed}
use Rattle.model.specs.Word.{Substitution, text, Legal, spell, EquationHolds, weight, ConstraintHolds, Solves}
use Rattle.model.specs.Cells.{Cell, letter, place, cells, value, values}
use Rattle.formula.specs.Clause.{K, S, T, blank, left_cells, right_cells, cell}
use Rattle.formula.specs.Assignment.{Assignment, spelled}
use Rattle.model.proofs.Lists.{at, from_at}
use Rattle.model.proofs.Words.{same-word-equal, equal-same-word, keeps_every}
use Rattle.model.proofs.Values.{cells-spell}
use Rattle.model.proofs.Templates.{symbols_in}
use Rattle.formula.proofs.Integers.{eq_z}
use Rattle.formula.proofs.Named.{Every}
use Rattle.formula.proofs.Valid.{CellIn, cells_in, cell_in}
use Rattle.formula.proofs.Terms.{Valuation, named, Met, Reads}
use Rattle.formula.proofs.KClauses.{spelled_reads, spelled-legal, place-small, places_met}
use Rattle.model.proofs.Locations.{rests_same, locations_same, same_locations}
use Rattle.formula.proofs.SClauses.{met_locations, locations_met}
use Rattle.formula.proofs.TClauses.{constraint-holds, constraint_met}

-- What a substitution makes true: K what it has at a place, S that both sides spell the same from there on, T the sums.
unfoldable pub valuation : Sheet → Substitution → Valuation
valuation s g (K f c a) = eqb (get_or (text g f) c (blank s)) a
valuation s g (S p i j) = rests_same (blank s) (map (value (blank s) g) (left_cells s p)) (map (value (blank s) g) (right_cells s p)) i j
valuation s g (T r k n) = eq_z n (weight (constraint s r) g k)

pub valuation_reads : (s : Sheet) (g : Substitution) → Reads s (valuation s g) g
unfolding valuation
valuation_reads s g f c a h k m = refl

-- a cell's value is a letter or blank
value-small : (s : Sheet) (g : Substitution) → Legal s g → (u : Cell) → CellIn s u → value (blank s) g u ≤ blank s
value-small s g legal (letter a) h = omega arith
value-small s g legal (place f c) h = place-small s g legal f c h.0

module _ (s : Sheet) (ok : WellFormed s) where
  side_in : (p : ℕ) → p < length s.equations → (side : ℕ) → All (CellIn s) (cells s (template s p side))
  side_in p h side = cells_in s (template s p side) (symbols_in s ok p h side)

  -- the values of a side's cells spell its word, and are small
  module _ (g : Substitution) (legal : Legal s g) (p : ℕ) (h : p < length s.equations) (side : ℕ) where
    side_spells : values (blank s) g (cells s (template s p side)) ≡ spell g (template s p side)
    side_spells = cells-spell s g legal (template s p side) (symbols_in s ok p h side)

    side-small : (i : ℕ) → i < length (map (value (blank s) g) (cells s (template s p side))) → get_or (map (value (blank s) g) (cells s (template s p side))) i 0 ≤ blank s
    side-small i l =
        let us : List Cell = cells s (template s p side) in
        let e = length-map us (value (blank s) g) in
        rw (get_or-map (value (blank s) g) us i (letter 0)) (value-small s g legal (cell us i) (cell_in s ok p h side i (omega arith)))

  pub met_solves : (w : Assignment) → Every s (Met s (named s w)) → Solves s (spelled s w)
  met_solves w met =
      let g : Substitution = spelled s w in
      let legal : Legal s g = spelled-legal s w in
      let reads : Reads s (named s w) g = spelled_reads s w met.places in
      record {
        is_legal = legal;
        equations_hold = from_at (EquationHolds s g) (record { left = []; right = [] }) s.equations (λ p h.
            equal-same-word s (spell g (equation s p).left) (spell g (equation s p).right)
            (sym (side_spells g legal p h 0)
            ∙ locations_same _ _ _ _ (met_locations s (named s w) g reads p (side_in p h 0) (side_in p h 1) (met.equations p h)) (side-small g legal p h 0)
            ∙ side_spells g legal p h 1));
        constraints_hold = from_at (ConstraintHolds s g) (record { coefficients = []; most = pos 0 }) s.constraints (λ r h.
            constraint-holds s (named s w) g legal reads r (met.constraints r h));
        keeps_all = keeps_every s g;
      }

  pub solves_met : (g : Substitution) → Solves s g → Every s (Met s (valuation s g))
  unfolding valuation
  solves_met g h =
      let legal : Legal s g = h.is_legal in
      let reads : Reads s (valuation s g) g = valuation_reads s g in
      record {
        places = places_met s (valuation s g) g legal reads;
        equations = λ p k.
            let same = same-word-equal s (spell g (equation s p).left) (spell g (equation s p).right) (at (EquationHolds s g) s.equations p (record { left = []; right = [] }) h.equations_hold k) in
            locations_met s (valuation s g) g reads p (side_in p k 0) (side_in p k 1)
            (same_locations _ _ _ (side_spells g legal p k 0 ∙ same ∙ sym (side_spells g legal p k 1)));
        constraints = λ r k.
            constraint_met s (valuation s g) g legal reads r (λ k z. refl)
            (at (ConstraintHolds s g) s.constraints r (record { coefficients = []; most = pos 0 }) h.constraints_hold k);
      }
