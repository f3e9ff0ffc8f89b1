-- The lines of a clause file part by part, in the order of the clauses that are not left out. `Whole.antt` of the proofs shows that
-- together with line 0 they are the model's file.
use Rattle.std.specs.Prelude.{List, ℕ}
use Rattle.model.specs.Lists.{each, up_to}
use Rattle.model.specs.Sheet.{Sheet, limit}
use Rattle.formula.specs.Clause.{place_ids}
use Rattle.formula.specs.Count.{Section, of_fields, of_equations, of_constraints, parts}
use Rattle.locations.specs.Lines.{lines_of, equation_lines}
use Rattle.sums.specs.Lines.{constraint_lines}

-- of a place of a field, and of a field
unfoldable pub place_lines : Sheet → ℕ → ℕ → List ℕ
place_lines s f c = lines_of s (place_ids s f c)

unfoldable pub field_lines : Sheet → ℕ → List ℕ
field_lines s f = each (up_to (limit s f)) (place_lines s f)

-- of a part of a section, and of a section
abbrev pub part_lines : Sheet → Section → ℕ → List ℕ
part_lines s of_fields = field_lines s
part_lines s of_equations = equation_lines s
part_lines s of_constraints = constraint_lines s

unfoldable pub section_lines : Sheet → Section → List ℕ
section_lines s x = each (up_to (parts s x)) (part_lines s x)
