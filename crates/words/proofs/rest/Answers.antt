-- `words::rest` meets its contract: the part of the one or the other word from the first letter on that does not agree. Assumes nothing.
use mathlib.Core.Path.{sym, ap, ◌∙◌}
use native.Mathlib.Omega.{arith}
use lib.ListN.{drop}
use Rattle.model.proofs.Seams.{tail_lent}
use Rattle.model.proofs.Mismatches.{rest-left, rest-right}
use Rattle.words.proofs.rest.Goals as goal

pub returns-then-n-left : goal.returns-then-n-left
returns-then-n-left c s =
    let a = c.args in
    let n = c.agreeing-n in
    tail_lent a.left.now n.result ∙ ap (λ k. drop k a.left.now) (n.ensures.2 s) ∙ sym (rest-left s a.left.now a.right.now (omega (arith, n.ensures.2 s))).1

pub returns-else-n-left : goal.returns-else-n-left
returns-else-n-left c s =
    let a = c.args in
    let n = c.agreeing-n in
    tail_lent a.right.now n.result ∙ ap (λ k. drop k a.right.now) (n.ensures.2 s) ∙ sym (rest-right s a.left.now a.right.now (omega (arith, n.ensures.2 s))).1
