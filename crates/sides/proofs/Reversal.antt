-- The cells of a template from the last to the first, each turned, are the cells of the reversed template. Assumes nothing.
use mathlib.Core.Path.{◌≡◌, refl, sym, ap, ap₂, ◌∙◌}
use mathlib.Core.Bool.{Bool, true, false}
use mathlib.Core.List.{List, [], ◌∷◌, ◌++◌, map, reverse, reverse-cons, reverse-append}
use Prim.Native.Nat.{ℕ, ◌+◌, ◌*◌, ◌-◌, ◌/◌, ◌%◌, ◌<◌}
use native.Mathlib.Omega.{arith}
use lib.ListN.{length}
use borrow.Author.Tests.{lt-ltb, le-ltb}
use Rattle.model.specs.Lists.{All, from, each}
use Rattle.model.specs.Sheet.{Symbol, Sheet, letter, field, limit}
use Rattle.model.specs.Range.{SymbolIn, InRange}
use Rattle.model.specs.Cells.{Cell, place, cells}
use Rattle.model.specs.Cells as cell
use Rattle.model.proofs.Lists.{weaken, map_in}
use Rattle.model.proofs.Keeping.{map-append, map-map, map_below}
use Rattle.formula.proofs.Small.{letters-few, limit-small}
use Rattle.formula.proofs.Valid.{CellIn, cells_in}
use Rattle.shape.specs.Bytes.{cell_byte}
use Rattle.trails.specs.Mirror.{template_cells}
use Rattle.trails.proofs.Mirror.{symbol_bytes, template_cons, template-append, template_one, from_back}
use Rattle.sides.specs.Sides.{facing}
use Rattle.sides.specs.Reversal.{ByteIn, turned_byte, cells_facing}

module _ (s : Sheet) (ok : InRange s) where
  abbrev In : Symbol → Type 0
  In x = SymbolIn (length s.letters) (length s.limits) x

  byte_in : (u : Cell) → CellIn s u → ByteIn s (cell_byte u)
  byte_in (cell.letter a) h k = let few = letters-few s ok in absurd (omega arith)
  byte_in (place f c) h k =
      let few = limit-small s ok f in
      let less = h.1 in
      let a : (8 + 8 * f + c - 8) / 8 ≡ f = omega arith in
      let b : (8 + 8 * f + c - 8) % 8 ≡ c = omega arith in
      rw (a, b) h

  pub template_bytes_lem : (t : List Symbol) → All In t → All (ByteIn s) (template_cells s t)
  template_bytes_lem t h = map_in (ByteIn s) cell_byte (cells s t) (weaken _ _ (cells s t) byte_in (cells_in s t h))

  place_turns : (f c : ℕ) → c < limit s f → turned_byte s (8 + 8 * f + c) ≡ 8 + 8 * f + (limit s f - 1 - c)
  unfolding turned_byte
  place_turns f c h =
      let few = limit-small s ok f in
      let a : (8 + 8 * f + c - 8) / 8 ≡ f = omega arith in
      let b : (8 + 8 * f + c - 8) % 8 ≡ c = omega arith in
      simp (le-ltb (8 + 8 * f + c) 8 (omega arith)) (rw (a, b))

  symbol_turns : (x : Symbol) → In x → map (turned_byte s) (reverse (symbol_bytes s x)) ≡ symbol_bytes s x
  unfolding turned_byte
  symbol_turns (letter a) h = let few = letters-few s ok in simp (lt-ltb a 8 (omega arith))
  symbol_turns (field f) h =
      let n : ℕ = limit s f in
      let T : ℕ → ℕ = turned_byte s in
      let F : ℕ → ℕ = λ k. 8 + 8 * f + k in
      let named : symbol_bytes s (field f) ≡ map F (from 0 n) = map-map cell_byte (place f) (from 0 n) in
      ap (λ (z : List ℕ). map T (reverse z)) named
      ∙ ap (map T) (sym (from_back F n))
      ∙ map-map T (λ k. F (n - 1 - k)) (from 0 n)
      ∙ map_below (λ k. T (F (n - 1 - k))) F n (λ i l. place_turns f (n - 1 - i) (omega arith) ∙ ap F (let e : n - 1 - (n - 1 - i) ≡ i = omega arith in e))
      ∙ sym named

  template_turns : (t : List Symbol) → All In t → map (turned_byte s) (reverse (template_cells s t)) ≡ template_cells s (reverse t)
  unfolding cells each All
  template_turns [] h = refl
  template_turns (x ∷ t) h =
      let T : ℕ → ℕ = turned_byte s in
      ap (λ (z : List ℕ). map T (reverse z)) (template_cons s x t)
      ∙ ap (map T) (reverse-append (symbol_bytes s x) (template_cells s t))
      ∙ map-append T (reverse (template_cells s t)) (reverse (symbol_bytes s x))
      ∙ ap₂ (λ (y z : List ℕ). y ++ z) (template_turns t h.1) (symbol_turns x h.0 ∙ sym (template_one s x))
      ∙ sym (template-append s (reverse t) (x ∷ []))
      ∙ ap (template_cells s) (sym (reverse-cons x t))

  pub facing_turns : (back : Bool) (t : List Symbol) → All In t → cells_facing s back (template_cells s t) ≡ template_cells s (facing back t)
  facing_turns true t h = template_turns t h
  facing_turns false t h = refl
