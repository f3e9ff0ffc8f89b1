-- `c_search::search` meets its contract: what searching answers, handed over. Assumes nothing.
use mathlib.Core.Path.{◌≡◌, sym, ap, ◌∙◌}
use lib.ListN.{length}
use Rattle.calls.specs.Calls.{Answer, searching}
use Rattle.automaton.specs.Answer.{searched, verdict_of}
use Rattle.c_answer.specs.Returned.{returned_number, Decided}
use Rattle.c_answer.proofs.Negated.{minus_told}
use Rattle.c_answer.proofs.Told.{decision-number}
use Rattle.c_search.proofs.search.Goals as goal
use Rattle.c_search.proofs.search.Lts as lts
use Rattle.c_search.proofs.search.Reads as reads
use Rattle.c_search.proofs.search.Tie as tie

-- the call, with the answer that is told
call : (c : lts.After-search tie.the-claims reads.Pre reads.Post) {answer : Answer} → searched c.search.result ≡ answer
    → let a = c.args in
    Decided (searching a.sheet.now (length a.filling.now)) a.filling.now (returned_number answer) c.search.new.buf
call c e =
    let a = c.args in
    (decision-number (searching a.sheet.now (length a.filling.now)) (sym e ∙ c.search.ensures.0), c.search.ensures.1)

pub returns-in-Ok-Solution : goal.returns-in-Ok-Solution
returns-in-Ok-Solution c = call c.before.before.before.before (ap searched c.in-Ok-Solution.is ∙ ap verdict_of c.in-Ok-Solution.field-0-is)

pub returns-in-Ok-Unsatisfiable : goal.returns-in-Ok-Unsatisfiable
returns-in-Ok-Unsatisfiable c = call c.before.before.before.before (ap searched c.in-Ok-Unsatisfiable.is ∙ ap verdict_of c.in-Ok-Unsatisfiable.field-0-is)

pub returns-in-Err : goal.returns-in-Err
returns-in-Err c =
    let d = call c.before.before.before.before.before.before (ap searched c.in-Err.is) in
    (minus_told c.from.ensures c.minus.ensures ∙ d.0, d.1)
