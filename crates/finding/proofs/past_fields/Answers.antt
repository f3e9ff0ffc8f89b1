-- `finding::past_fields` meets its contract: the equations' clauses, and then the constraints'. Assumes nothing.
use lib.ListN.{length}
use Rattle.std.proofs.Common.{arith}
use Rattle.std.proofs.lemmas.Grind.{common_steps}
use Rattle.model.specs.Lists.{total}
use Rattle.model.specs.Sheet.{sheet_of}
use Rattle.formula.specs.Count.{k_clauses, s_clauses, constraint_count}
use Rattle.finding.proofs.Laws.{sought_else}
use Rattle.finding.proofs.past_fields.Goals as goal

pub returns : goal.returns
returns c =
    let s = sheet_of c.args.sheet.now in
    sought_else s (k_clauses s) (s_clauses s) c.args.n (total (length s.constraints) (constraint_count s)) c.in_section-found.result c.or_else.result _
    c.in_section-found.ensures c.or_else.ensures (λ k asked. grind (arith, common_steps))
