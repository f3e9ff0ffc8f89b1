-- `rendering::put_part` meets its contract, by its section. Assumes nothing.
use mathlib.Core.Path.{◌≡◌, sym, subst}
use mathlib.Core.List.{List}
use Prim.Native.Nat.{ℕ}
use Rattle.model.specs.Lists.{Puts}
use Rattle.model.specs.Sheet.{sheet_of}
use Rattle.shape.specs.declared.Section.{Section}
use Rattle.shape.specs.Name.{section_of}
use Rattle.rendering.specs.Lines.{part_lines}
use Rattle.rendering.proofs.put_part.Goals as goal
use Rattle.rendering.proofs.put_part.Lts as lts
use Rattle.rendering.proofs.put_part.Reads as reads
use Rattle.rendering.proofs.put_part.Tie as tie

-- the part is one of the section that the match has met, and its lines are those that are promised
module _ (start : lts.Start tie.the-claims reads.Pre reads.Post) (x : Section) (met : start.args.section ≡ x) where
  abbrev lines : Section → List ℕ
  lines y = part_lines (sheet_of start.args.sheet.now) (section_of y) start.args.i

  promised : (b : List ℕ) (q : ℕ) → Puts start.args.buf.now start.args.at (lines x) b q → Puts start.args.buf.now start.args.at (lines start.args.section) b q
  promised b q f = subst (λ y. Puts start.args.buf.now start.args.at (lines y) b q) (sym met) f

pub returns-in-Fields : goal.returns-in-Fields
returns-in-Fields c =
    promised c.before.before.before.before.before.before.before.before _ c.in-Fields.is c.put_field.new.buf c.put_field.result c.put_field.ensures

pub returns-in-Equations : goal.returns-in-Equations
returns-in-Equations c =
    promised c.before.before.before.before.before.before.before.before _ c.in-Equations.is c.put_equation.new.buf c.put_equation.result c.put_equation.ensures

pub returns-in-Constraints : goal.returns-in-Constraints
returns-in-Constraints c =
    promised c.before.before.before.before.before.before.before.before _ c.in-Constraints.is c.put_constraint.new.buf c.put_constraint.result c.put_constraint.ensures
