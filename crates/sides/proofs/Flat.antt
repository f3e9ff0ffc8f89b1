-- Equations as the walk takes them: from cells one after the other and their widths they are had again; each cell is a letter below L or a
-- place. Assumes nothing.
use mathlib.Core.Path.{◌≡◌, refl, sym, ap, subst, ◌∙◌}
use mathlib.Core.Bool.{Bool, true, false}
use mathlib.Core.List.{List, [], ◌∷◌, ◌++◌, map, reverse, reverse-cons, append_assoc, append-nil}
use Prim.Native.Nat.{ℕ, zero, suc, ◌+◌, ◌*◌, ◌<◌, ◌≤◌}
use native.Mathlib.Omega.{arith}
use lib.ListN.{length, get_or, take, drop, length-append}
use lib.Seq.{take_at, take_all, drop_at}
use Rattle.model.specs.Lists.{each, when, All}
use Rattle.model.specs.Sheet.{Symbol, Sheet, equation}
use Rattle.model.specs.Sheet as sheet
use Rattle.model.specs.Range.{SymbolIn, EquationIn, InRange}
use Rattle.model.specs.Cells.{Cell, letter, place, cells}
use Rattle.model.proofs.Lists.{weaken, map_in, append_in, each_append}
use Rattle.model.proofs.Keeping.{map-append}
use Rattle.model.proofs.Seams.{front_is, Written, nothing, more}
use Rattle.formula.proofs.Small.{letters-few, fields-few, limit-small}
use Rattle.formula.proofs.Valid.{CellIn, cells_in}
use Rattle.shape.specs.Bytes.{cell_byte}
use Rattle.unification.specs.Names.{Below}
use Rattle.walk.specs.Walk.{Cells}
use Rattle.trails.specs.Equations.{Equation, equations, cell_total}
use Rattle.trails.proofs.Attempts.{AllLetters}
use Rattle.inequalities.specs.Asked.{asked}
use Rattle.inequalities.proofs.Asked.{asked-none, asked_next}
use Rattle.trails.specs.Mirror.{template_cells, sides_of}
use Rattle.trails.proofs.Mirror.{mirror_width}
use Rattle.sides.specs.declared.Sizes.{Sizes}
use Rattle.sides.specs.Sides.{facing, sides_facing, flat_cells, widths, Expands, Expanded}

pub equations_again : (es : List Equation) → equations (flat_cells es) (widths es) ≡ es
unfolding equations flat_cells widths each
equations_again [] = refl
equations_again (e ∷ es) =
    let rest : List ℕ = each es (λ e. e.left ++ e.right) in
    let whole = append_assoc e.left e.right rest in
    let left = ap (take (length e.left)) whole ∙ take_at e.left (e.right ++ rest) (length e.left) refl in
    let right = ap (λ z. take (length e.right) (drop (length e.left) z)) whole
    ∙ ap (take (length e.right)) (drop_at e.left (e.right ++ rest) (length e.left) refl)
    ∙ take_at e.right rest (length e.right) refl in
    let others = drop_at (e.left ++ e.right) rest (length e.left + length e.right) (length-append e.left e.right) in
    rw (left, right, others, equations_again es)

pub total-widths : (es : List Equation) → cell_total (widths es) ≡ length (flat_cells es)
unfolding cell_total flat_cells widths each
total-widths [] = refl
total-widths (e ∷ es) = let ih = total-widths es in let a = length-append (e.left ++ e.right) (each es (λ e. e.left ++ e.right)) in let b = length-append e.left e.right in omega arith

-- Reversed templates are as wide.
pub facing-width : (s : Sheet) (back : Bool) (t : List Symbol) → length (template_cells s (facing back t)) ≡ length (template_cells s t)
facing-width s true t = mirror_width s t
facing-width s false t = refl

pub facing-widths : (s : Sheet) (back : Bool) (qs : List sheet.Equation) → widths (map (sides_facing s back) qs) ≡ widths (map (sides_of s) qs)
unfolding widths each
facing-widths s back [] = refl
facing-widths s back (q ∷ qs) = rw (facing-width s back q.left, facing-width s back q.right, facing-widths s back qs)

-- what holds of every element, of the list reversed
reverse_in : {A : Type 0} (P : A → Type 0) (xs : List A) → All P xs → All P (reverse xs)
unfolding All
reverse_in P [] h = tt
reverse_in P (x ∷ xs) h = subst (All P) (sym (reverse-cons x xs)) (append_in P (reverse xs) (x ∷ []) (reverse_in P xs h.1) (h.0, tt))

-- A cell's byte is below 56, and below L where it is a letter.
abbrev CellBelow : ℕ → ℕ → Type 0
CellBelow l x = (x < 56) × Below l x

module _ (s : Sheet) (ok : InRange s) where
  abbrev l : ℕ
  l = length s.letters

  byte_below : (u : Cell) → CellIn s u → CellBelow l (cell_byte u)
  byte_below (letter a) h = let few = letters-few s ok in (omega arith, λ _. h)
  byte_below (place f c) h = let few = fields-few s ok in let n = limit-small s ok f in (omega (arith, h), λ k. absurd (omega arith))

  template_below : (t : List Symbol) → All (SymbolIn l (length s.limits)) t → All (CellBelow l) (template_cells s t)
  template_below t h = map_in (CellBelow l) cell_byte (cells s t) (weaken _ _ (cells s t) byte_below (cells_in s t h))

  facing_below : (back : Bool) (t : List Symbol) → All (SymbolIn l (length s.limits)) t → All (CellBelow l) (template_cells s (facing back t))
  facing_below true t h = template_below (reverse t) (reverse_in _ t h)
  facing_below false t h = template_below t h

  -- the same at every index: past the end stands 0, which is a letter too
  at_every : (xs : List ℕ) → All (CellBelow l) xs → (i : ℕ) → CellBelow l (get_or xs i 0)
  unfolding All
  at_every [] h i = let some = ok.counts_in.of_letters.0 in (omega arith, λ _. some)
  at_every (x ∷ xs) h zero = h.0
  at_every (x ∷ xs) h (suc i) = at_every xs h.1 i

  flat_below : (back : Bool) (qs : List sheet.Equation) → All (EquationIn l s.limits) qs → All (CellBelow l) (flat_cells (map (sides_facing s back) qs))
  unfolding flat_cells each All
  flat_below back [] h = tt
  flat_below back (q ∷ qs) h =
      append_in (CellBelow l) (template_cells s (facing back q.left) ++ template_cells s (facing back q.right)) _
      (append_in (CellBelow l) (template_cells s (facing back q.left)) (template_cells s (facing back q.right)) (facing_below back q.left h.0.left_in.symbols) (facing_below back q.right h.0.right_in.symbols))
      (flat_below back qs h.1)

  pub flat-cells : (back : Bool) (qs : List sheet.Equation) → All (EquationIn l s.limits) qs → Cells (flat_cells (map (sides_facing s back) qs))
  flat-cells back qs h i = (at_every (flat_cells (map (sides_facing s back) qs)) (flat_below back qs h) i).0

  pub side-letters : (qs : List sheet.Equation) → All (EquationIn l s.limits) qs → AllLetters l (map (sides_of s) qs)
  unfolding AllLetters All
  side-letters [] h = tt
  side-letters (q ∷ qs) h = (
    (λ i. (at_every (template_cells s q.left) (template_below q.left h.0.left_in.symbols) i).1),
    (λ i. (at_every (template_cells s q.right) (template_below q.right h.0.right_in.symbols) i).1),
    side-letters qs h.1,
  )

-- Equations at the front of two lent lists, when p of the sheet's have been passed.
pub record Front (s : Sheet) (back : Bool) (x₀ w₀ : List ℕ) (p : ℕ) (x w : List ℕ) (sizes : Sizes) (qs : List sheet.Equation) : Type 0 where
  pub cells_in : Written x₀ 0 (flat_cells (map (sides_facing s back) qs)) x sizes.cells
  pub widths_in : Written w₀ 0 (widths (map (sides_facing s back) qs)) w sizes.widths
  pub few_cells : sizes.cells ≤ 48 * p
  pub few_widths : sizes.widths ≤ 2 * p

module _ (s : Sheet) (back : Bool) (marks : List Bool) (x₀ w₀ : List ℕ) where
  -- those that are asked among the first p
  abbrev pub Asked : ℕ → List ℕ → List ℕ → Sizes → Type 0
  Asked p x w sizes = Front s back x₀ w₀ p x w sizes (asked marks (take p s.equations))

  pub front_none : Asked 0 x₀ w₀ (record { cells = 0; widths = 0 })
  unfolding flat_cells widths each
  front_none = subst (Front s back x₀ w₀ 0 x₀ w₀ (record { cells = 0; widths = 0 })) (sym (asked-none marks)) (record {
    cells_in = nothing x₀ 0;
    widths_in = nothing w₀ 0;
    few_cells = omega arith;
    few_widths = omega arith;
  })

  module _ (p : ℕ) (x w : List ℕ) (sizes : Sizes) (inside : p < length s.equations) (there : Asked p x w sizes) where
    abbrev before : List sheet.Equation
    before = asked marks (take p s.equations)

    next : asked marks (take (p + 1) s.equations) ≡ before ++ when (get_or marks p false) (equation s p ∷ [])
    next = asked_next marks s.equations p (record { left = []; right = [] }) inside

    -- equation p is not asked
    pub front_skips : get_or marks p false ≡ false → Asked (p + 1) x w sizes
    front_skips e = subst (Front s back x₀ w₀ (p + 1) x w sizes) (sym (next ∙ ap (λ b. before ++ when b (equation s p ∷ [])) e ∙ append-nil before)) (record {
      cells_in = there.cells_in;
      widths_in = there.widths_in;
      few_cells = omega (arith, there.few_cells);
      few_widths = omega (arith, there.few_widths);
    })

    -- what is written of the equations with one more
    one_more : (f : Equation → List ℕ) → each (map (sides_facing s back) (before ++ (equation s p ∷ []))) f ≡ each (map (sides_facing s back) before) f ++ f (sides_facing s back (equation s p))
    unfolding each
    one_more f =
        ap (λ (es : List Equation). each es f) (map-append (sides_facing s back) before (equation s p ∷ []))
        ∙ each_append f (map (sides_facing s back) before) (sides_facing s back (equation s p) ∷ [])
        ∙ ap (λ z. each (map (sides_facing s back) before) f ++ z) (append-nil (f (sides_facing s back (equation s p))))

    -- equation p is asked, and has been put after the others
    pub front_takes : get_or marks p false ≡ true → length x₀ ≡ 192 → length w₀ ≡ 8 → p < 4 → (x' w' : List ℕ) (r : Sizes) → Expands (sides_facing s back (equation s p)) x w sizes x' w' r → length x' ≡ length x → length w' ≡ length w → Asked (p + 1) x' w' r
    unfolding flat_cells widths
    front_takes e xs ws few x' w' r put kx kw =
        let this = sides_facing s back (equation s p) in
        let a = more (this.left ++ this.right) x' r.cells there.cells_in put.cells_put kx (omega (arith, put.few_cells, put.cells_put.0, there.few_cells, there.cells_in.past)) in
        let b = more (length this.left ∷ length this.right ∷ []) w' r.widths there.widths_in put.widths_put kw (omega (arith, put.widths_put.0, there.few_widths, there.widths_in.past)) in
        subst (Front s back x₀ w₀ (p + 1) x' w' r) (sym (next ∙ ap (λ b. before ++ when b (equation s p ∷ [])) e)) (record {
          cells_in = subst (λ (z : List ℕ). Written x₀ 0 z x' r.cells) (sym (one_more (λ e. e.left ++ e.right))) a;
          widths_in = subst (λ (z : List ℕ). Written w₀ 0 z w' r.widths) (sym (one_more (λ e. length e.left ∷ length e.right ∷ []))) b;
          few_cells = omega (arith, put.few_cells, there.few_cells);
          few_widths = omega (arith, put.widths_put.0, there.few_widths);
        })

  -- all equations have been passed
  pub front_whole : (p : ℕ) (x w : List ℕ) (sizes : Sizes) → p ≡ length s.equations → p ≤ 4 → Asked p x w sizes → Expanded (map (sides_facing s back) (asked marks s.equations)) x w sizes
  front_whole p x w sizes e few there =
      let all : take p s.equations ≡ s.equations = take_all p s.equations (omega arith) in
      subst (λ (qs : List sheet.Equation). Expanded (map (sides_facing s back) (asked marks qs)) x w sizes) all (record {
        cells_are = front_is x₀ _ x sizes.cells (there.cells_in.past, there.cells_in.holds);
        widths_are = front_is w₀ _ w sizes.widths (there.widths_in.past, there.widths_in.holds);
        few_cells = omega (arith, there.few_cells);
        few_widths = omega (arith, there.few_widths);
      })
