-- `size_file::part_size` meets its contract, by its section. Assumes nothing.
use mathlib.Core.Path.{◌≡◌, sym, ap, ◌∙◌}
use Prim.Native.Nat.{ℕ}
use native.Mathlib.Omega.{arith}
use lib.ListN.{length}
use Rattle.model.specs.Sheet.{sheet_of}
use Rattle.shape.specs.declared.Section.{Section}
use Rattle.shape.specs.Name.{section_of}
use Rattle.rendering.specs.Lines.{part_lines}
use Rattle.size_file.proofs.part_size.Goals as goal
use Rattle.size_file.proofs.part_size.Lts as lts
use Rattle.size_file.proofs.part_size.Reads as reads
use Rattle.size_file.proofs.part_size.Tie as tie

-- the part is one of the section that the match has met, and its lines are those that are measured
module _ (start : lts.Start tie.the-claims reads.Pre reads.Post) (x : Section) (met : start.args.section ≡ x) where
  measured : (n : ℕ) → n ≡ length (part_lines (sheet_of start.args.sheet.now) (section_of x) start.args.i) → n ≡ length (part_lines (sheet_of start.args.sheet.now) (section_of start.args.section) start.args.i)
  measured n e = e ∙ ap (λ y. length (part_lines (sheet_of start.args.sheet.now) (section_of y) start.args.i)) (sym met)

pub returns-in-Fields : goal.returns-in-Fields
returns-in-Fields c = (measured c.before.before.before.before _ c.in-Fields.is c.field_size.result c.field_size.ensures.0, c.field_size.ensures.1)

pub returns-in-Equations : goal.returns-in-Equations
returns-in-Equations c = (measured c.before.before.before.before _ c.in-Equations.is c.equation_size.result c.equation_size.ensures.0, omega (arith, c.equation_size.ensures.1))

pub returns-in-Constraints : goal.returns-in-Constraints
returns-in-Constraints c = (measured c.before.before.before.before _ c.in-Constraints.is c.constraint_size.result c.constraint_size.ensures.0, c.constraint_size.ensures.1)
