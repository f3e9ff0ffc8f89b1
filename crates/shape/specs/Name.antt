-- What the enum of this crate says in the model's words.
use Rattle.formula.specs.Count as model
use Rattle.shape.specs.declared.Section.{Section}
use Rattle.shape.specs.declared.Section.TheVariants.{Fields, Equations, Constraints}

abbrev pub section_of : Section → model.Section
section_of Fields = model.of_fields
section_of Equations = model.of_equations
section_of Constraints = model.of_constraints
