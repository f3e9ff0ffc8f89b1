-- What an accepted sheet's templates keep to: of their symbols, of their bytes, and of the words that they spell. Assumes nothing.
use mathlib.Core.Path.{◌≡◌}
use mathlib.Core.Bool.{Bool, true, false}
use mathlib.Core.List.{List, [], map}
use Prim.Native.Nat.{ℕ, ◌<◌, ◌≤◌}
use native.Mathlib.Omega.{arith}
use lib.Dec.{eqb}
use lib.ListN.{length}
use Rattle.model.specs.Lists.{pick, All}
use Rattle.model.specs.Sheet.{Symbol, letter, field, Equation, Sheet, equation, template, symbol_of, symbol_byte, Accepted, sheet_of}
use Rattle.model.specs.Range.{SymbolIn, TemplateIn, EquationIn, InRange, WellFormed}
use Rattle.model.specs.Word.{Substitution, Legal, spell}
use Rattle.model.proofs.Lists.{at, weaken, map_in}
use Rattle.model.proofs.Sections.{symbols_again}
use Rattle.model.proofs.Known.{accepted-equations}
use Rattle.model.proofs.Words.{spell-short}

-- The symbols of an equation's sides, of which nothing but `WellFormed` is asked; a sheet within the ranges is such, and so is
-- an accepted one.
pub symbols_in : (s : Sheet) → WellFormed s → (p : ℕ) → p < length s.equations → (side : ℕ) → All (SymbolIn (length s.letters) (length s.limits)) (template s p side)
symbols_in s ok p h side = either (eqb side 0)
  where
    P : Equation → Type 0
    P e = All (SymbolIn (length s.letters) (length s.limits)) e.left × All (SymbolIn (length s.letters) (length s.limits)) e.right

    e : P (equation s p)
    e = at P s.equations p (record { left = []; right = [] }) ok h

    either : (left : Bool) → All (SymbolIn (length s.letters) (length s.limits)) (pick left (equation s p).left (equation s p).right)
    either true = e.0
    either false = e.1

well_formed_by : (s : Sheet) → All (EquationIn (length s.letters) s.limits) s.equations → WellFormed s
well_formed_by s ok = weaken _ _ s.equations (λ e i. (i.left_in.symbols, i.right_in.symbols)) ok

pub well_formed : (s : Sheet) → InRange s → WellFormed s
well_formed s ok = well_formed_by s ok.equations_in

pub accepted_well_formed : (b : List ℕ) → Accepted b → WellFormed (sheet_of b)
accepted_well_formed b ok = well_formed_by (sheet_of b) (accepted-equations b ok)

module _ (s : Sheet) (ok : InRange s) (p : ℕ) (h : p < length s.equations) where
  pub template_in : (side : ℕ) → TemplateIn (length s.letters) s.limits (template s p side)
  template_in side = either (eqb side 0)
    where
      e : EquationIn (length s.letters) s.limits (equation s p)
      e = at _ s.equations p _ ok.equations_in h

      either : (left : Bool) → TemplateIn (length s.letters) s.limits (pick left (equation s p).left (equation s p).right)
      either true = e.left_in
      either false = e.right_in

  -- its bytes are symbols again, and small
  pub template_again : (side : ℕ) → map symbol_of (map symbol_byte (template s p side)) ≡ template s p side
  template_again side =
      symbols_again (length s.letters) (length s.limits) (omega (arith, ok.counts_in.of_letters)) (template s p side) (template_in side).symbols

  pub template_bytes_lem : (side : ℕ) → All (λ x. x < 134) (map symbol_byte (template s p side))
  template_bytes_lem side = map_in (λ x. x < 134) symbol_byte (template s p side) (weaken _ _ (template s p side) small (template_in side).symbols)
    where
      small : (x : Symbol) → SymbolIn (length s.letters) (length s.limits) x → symbol_byte x < 134
      small (letter a) k = omega (arith, ok.counts_in.of_letters)
      small (field f) k = omega (arith, ok.counts_in.of_fields)

  -- "at most 24"
  pub template-room : (g : Substitution) → Legal s g → (side : ℕ) → length (spell g (template s p side)) ≤ 24
  template-room g legal side =
      let t = template_in side in
      let n = spell-short s g legal (template s p side) t.symbols in
      omega (arith, t.wide)
