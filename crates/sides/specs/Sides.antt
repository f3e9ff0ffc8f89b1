-- A sheet's equations as the walk takes them: cells as bytes, one after the other, and their widths.
use Rattle.std.specs.Prelude.{◌≡◌, Bool, List, [], ◌∷◌, ◌++◌, reverse, ℕ, ◌+◌, ◌≤◌, length, take}
use Rattle.model.specs.Lists.{pick, each, Puts}
use Rattle.model.specs.Sheet.{Symbol, Sheet}
use Rattle.model.specs.Sheet as sheet
use Rattle.trails.specs.Equations.{Equation}
use Rattle.trails.specs.Mirror.{template_cells}
use Rattle.sides.specs.declared.Sizes.{Sizes}

-- a template as it is, or reversed; the sides of an equation with its templates so
abbrev pub facing : Bool → List Symbol → List Symbol
facing back t = pick back (reverse t) t

abbrev pub sides_facing : Sheet → Bool → sheet.Equation → Equation
sides_facing s back e = record { left = template_cells s (facing back e.left); right = template_cells s (facing back e.right) }

-- the cells of all sides, and their widths
unfoldable pub flat_cells : List Equation → List ℕ
flat_cells es = each es (λ e. e.left ++ e.right)

unfoldable pub widths : List Equation → List ℕ
widths es = each es (λ e. length e.left ∷ length e.right ∷ [])

-- one equation more: its cells and its widths stand after those that were there
pub record Expands (e : Equation) (x w : List ℕ) (there : Sizes) (x' w' : List ℕ) (r : Sizes) : Type 0 where
  pub cells_put : Puts x there.cells (e.left ++ e.right) x' r.cells
  pub widths_put : Puts w there.widths (length e.left ∷ length e.right ∷ []) w' r.widths
  pub few_cells : r.cells ≤ there.cells + 48

-- the equations stand at the front, and there is room for them
pub record Expanded (es : List Equation) (x w : List ℕ) (r : Sizes) : Type 0 where
  pub cells_are : take r.cells x ≡ flat_cells es
  pub widths_are : take r.widths w ≡ widths es
  pub few_cells : r.cells ≤ 192
  pub few_widths : r.widths ≤ 8
