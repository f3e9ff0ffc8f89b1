-- `c_sheet::spell` meets its contract: what spelling answers, handed over; a text's length is small. Assumes nothing.
use mathlib.Core.Path.{◌≡◌, sym, ap, ◌∙◌}
use mathlib.Core.List.{[], ◌∷◌}
use Prim.Native.Nat.{◌≤◌}
use native.Mathlib.Omega.{arith}
use lib.ListN.{length}
use mir.Syntax.{w64}
use mir.ValLaws.{to_z_pos}
use Rattle.calls.specs.Calls.{refused, finished, spelling, sized}
use Rattle.calls.proofs.Passed.{spelling-short}
use Rattle.calls.proofs.Operations.{sized-finished}
use Rattle.parts.proofs.Known.{lent_bytes}
use Rattle.substitution.specs.Answer.{number_of, spelled}
use Rattle.c_answer.specs.Returned.{returned_number}
use Rattle.c_answer.proofs.Negated.{minus_told}
use Rattle.c_sheet.proofs.spell.Goals as goal
use Rattle.c_sheet.proofs.spell.Lts as lts
use Rattle.c_sheet.proofs.spell.Reads as reads
use Rattle.c_sheet.proofs.spell.Tie as tie

-- the answer is a length, of a text that was spelled
answers : (c : lts.Past-After-known_told tie.the-claims reads.Pre reads.Post) →
    sized (spelling c.args.sheet.now c.args.pair c.args.side c.args.filling.now (length c.args.text.now)) ≡ finished (c.in-Ok.n ∷ [])
answers c =
    let at-spell = c.spell in
    sym at-spell.ensures.0 ∙ ap spelled c.in-Ok.is

small : (c : lts.Past-After-known_told tie.the-claims reads.Pre reads.Post) → c.in-Ok.n ≤ 24
small c =
    let at-shared-slice-known = c.shared_slice_known-1 in
    let a = c.args in
    let t = sized-finished (spelling a.sheet.now a.pair a.side a.filling.now (length a.text.now)) (answers c) in
    let short = spelling-short a.sheet.now a.filling.now (lent_bytes a.sheet.now at-shared-slice-known.given) a.pair a.side (length a.text.now) t.is in
    omega (arith, t.count)

pub overflow_cast-result : goal.overflow_cast-result
overflow_cast-result c = record { sfits = omega (arith, small c.before) }

pub returns-in-Ok : goal.returns-in-Ok
returns-in-Ok c =
    let at-spell = c.spell in
    (to_z_pos w64 c.in-Ok.n (omega (arith, small c.before)) ∙ sym (ap returned_number (answers c.before)), at-spell.ensures.1)

pub returns-in-Err : goal.returns-in-Err
returns-in-Err c =
    let at-spell = c.spell in
    let a = c.args in
    let f = c.in-Err.refusal in
    let e : sized (spelling a.sheet.now a.pair a.side a.filling.now (length a.text.now)) ≡ refused (number_of f) = sym at-spell.ensures.0 ∙ ap spelled c.in-Err.is in
    (minus_told c.from.ensures c.minus.ensures ∙ sym (ap returned_number e), at-spell.ensures.1)
