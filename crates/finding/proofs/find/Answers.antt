-- `finding::find` meets its contract: the fields' clauses, and then the others. Assumes nothing.
use Prim.Native.Nat.{◌+◌}
use lib.ListN.{length}
use Rattle.std.proofs.Common.{arith}
use Rattle.std.proofs.lemmas.Grind.{common_steps}
use Rattle.model.specs.Lists.{total}
use Rattle.model.specs.Sheet.{sheet_of}
use Rattle.formula.specs.Count.{k_clauses, s_clauses, constraint_count}
use Rattle.counting.proofs.Laws.{clauses_known}
use Rattle.finding.proofs.Laws.{sought_else}
use Rattle.finding.proofs.find.Goals as goal

pub returns : goal.returns
returns c =
    let s = sheet_of c.args.sheet.now in
    rw (clauses_known s c.requires.1)
    (sought_else s 0 (k_clauses s) c.args.n (s_clauses s + total (length s.constraints) (constraint_count s)) c.in_section.result c.or_else.result _
    c.in_section.ensures c.or_else.ensures (λ k asked. grind (arith, common_steps)))
