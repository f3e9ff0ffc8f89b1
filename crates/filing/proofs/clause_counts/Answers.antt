-- `filing::clause_counts` meets its contract. Assumes nothing.
use mathlib.Core.Path.{sym, ap, ◌∙◌}
use mathlib.Core.List.{[], ◌∷◌}
use lib.ListN.{length}
use Rattle.model.specs.Sheet.{sheet_of}
use Rattle.formula.specs.Clause.{ids}
use Rattle.formula.specs.Numbering.{variables}
use Rattle.formula.proofs.Numbering.{variable_count_lem}
use Rattle.filing.proofs.clause_counts.Goals as goal

pub variable_count-variables-requires : goal.variable_count-variables-requires
variable_count-variables-requires c = c.requires

pub clause_count-clauses-requires : goal.clause_count-clauses-requires
clause_count-clauses-requires c = c.requires

pub file_size-bytes-requires : goal.file_size-bytes-requires
file_size-bytes-requires c = (c.requires, c.variable_count-variables.ensures.0, c.clause_count-clauses.ensures.0)

pub returns : goal.returns
returns c =
    let s = sheet_of c.args.sheet.now in
    let v = c.variable_count-variables.ensures.0 ∙ sym (variable_count_lem s) in
    rw (v, c.clause_count-clauses.ensures.0) (ap (λ n. length (variables s) ∷ length (ids s) ∷ n ∷ []) c.file_size-bytes.ensures.0)
