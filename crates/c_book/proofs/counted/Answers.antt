-- `c_book::counted` meets its contract: the number of pairs, which is small, or minus the refusal's. Assumes nothing.
use mathlib.Core.Path.{sym, ap, subst, ◌∙◌}
use native.Mathlib.Omega.{arith}
use mir.Syntax.{w64}
use mir.ValLaws.{to_z_pos}
use Rattle.book_list.specs.Answer.{compared}
use Rattle.c_answer.specs.Returned.{returned_number}
use Rattle.c_answer.proofs.Negated.{minus_told}
use Rattle.c_book.specs.Few.{Few}
use Rattle.c_book.proofs.counted.Goals as goal

pub overflow_cast-result : goal.overflow_cast-result
overflow_cast-result c =
    let few = subst Few c.in-Ok.is c.requires in
    record { sfits = omega (arith, few) }

pub returns-in-Ok : goal.returns-in-Ok
returns-in-Ok c =
    let few = subst Few c.in-Ok.is c.requires in
    to_z_pos w64 c.in-Ok.n (omega (arith, few)) ∙ sym (ap (λ x. returned_number (compared x)) c.in-Ok.is)

pub returns-in-Err : goal.returns-in-Err
returns-in-Err c = minus_told c.from.ensures c.minus.ensures ∙ sym (ap (λ x. returned_number (compared x)) c.in-Err.is)
