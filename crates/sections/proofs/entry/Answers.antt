-- `sections::entry` meets its contract, by sections. Assumes nothing.
use Rattle.sections.proofs.entry.Goals as goal

pub returns-in-Equations : goal.returns-in-Equations
returns-in-Equations c = rw c.in-Equations.is c.equation.ensures

pub returns-in-Constraints : goal.returns-in-Constraints
returns-in-Constraints c = rw c.in-Constraints.is c.constraint.ensures
