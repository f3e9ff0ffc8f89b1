-- Clauses by name as the code has them, and their lines.
use Rattle.std.specs.Prelude.{List, ℕ}
use Rattle.model.specs.Sheet.{Sheet}
use Rattle.formula.specs.Clause as model
use Rattle.formula.specs.Numbering.{clause}
use Rattle.formula.specs.Dimacs.{clause_line}
use Rattle.literals.specs.declared.ClauseId.{ClauseId}
use Rattle.literals.specs.declared.ClauseId.TheVariants.{SomeValue, NotBoth, BlankTail, Start, Left, Right, Both, Match, End, Zero, Add, Bound}

-- the model's name
abbrev pub name_of : ClauseId → model.ClauseId
name_of (SomeValue f c) = model.SomeValue f c
name_of (NotBoth f c a b) = model.NotBoth f c a b
name_of (BlankTail f c) = model.BlankTail f c
name_of (Start p) = model.Start p
name_of (Left p i j) = model.Left p i j
name_of (Right p i j) = model.Right p i j
name_of (Both p i j) = model.Both p i j
name_of (Match p i j a) = model.Match p i j a
name_of (End p i j) = model.End p i j
name_of (Zero r) = model.Zero r
name_of (Add r k n d) = model.Add r k n d
name_of (Bound r n) = model.Bound r n

-- The line of a clause.
abbrev pub line_of : Sheet → model.ClauseId → List ℕ
line_of s q = clause_line (clause s q)
