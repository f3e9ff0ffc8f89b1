-- `c_replies::reply` meets its contract: what reading a reply answers, handed over. Assumes nothing.
use mathlib.Core.Path.{◌≡◌, sym, ap, ◌∙◌}
use mathlib.Core.List.{[]}
use lib.ListN.{length}
use Rattle.calls.specs.Calls.{refused, finished, unnumbered, replying}
use Rattle.decoding.specs.Answer.{number_of, replied}
use Rattle.c_answer.specs.Returned.{returned}
use Rattle.c_answer.proofs.Negated.{minus_told}
use Rattle.c_answer.proofs.Told.{same-returned}
use Rattle.c_replies.proofs.reply.Goals as goal

pub returns-in-Ok : goal.returns-in-Ok
returns-in-Ok c =
    let at-read-reply = c.read_reply in
    let a = c.args in
    let reply = replying a.sheet.now a.reply.now (length a.filling.now) in
    let e : finished [] ≡ unnumbered reply = sym (ap replied c.in-Ok.is) ∙ at-read-reply.ensures.0 in
    (ap returned e ∙ same-returned reply, at-read-reply.ensures.1)

pub returns-in-Err : goal.returns-in-Err
returns-in-Err c =
    let at-read-reply = c.read_reply in
    let a = c.args in
    let reply = replying a.sheet.now a.reply.now (length a.filling.now) in
    let e : refused (number_of c.in-Err.refusal) ≡ unnumbered reply = sym (ap replied c.in-Err.is) ∙ at-read-reply.ensures.0 in
    (minus_told c.from.ensures c.minus.ensures ∙ ap returned e ∙ same-returned reply, at-read-reply.ensures.1)
