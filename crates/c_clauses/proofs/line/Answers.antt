-- `c_clauses::line` meets its contract: what writing a line answers, handed over; a line is short. Assumes nothing.
use mathlib.Core.Path.{◌≡◌, sym, ap, ◌∙◌}
use mathlib.Core.List.{[], ◌∷◌}
use Prim.Native.Nat.{◌≤◌}
use native.Mathlib.Omega.{arith}
use lib.ListN.{length}
use mir.Syntax.{w64}
use mir.ValLaws.{to_z_pos}
use Rattle.calls.specs.Calls.{refused, finished, writing, sized}
use Rattle.calls.proofs.Sizes.{writing-short}
use Rattle.calls.proofs.Operations.{sized-finished}
use Rattle.parts.proofs.Known.{lent_bytes}
use Rattle.encoding.specs.Answer.{number_of, lined}
use Rattle.c_answer.specs.Returned.{returned_number}
use Rattle.c_answer.proofs.Negated.{minus_told}
use Rattle.c_clauses.proofs.line.Goals as goal
use Rattle.c_clauses.proofs.line.Lts as lts
use Rattle.c_clauses.proofs.line.Reads as reads
use Rattle.c_clauses.proofs.line.Tie as tie

-- the answer is a length, of a line that was written
answers : (c : lts.Past-After-known_told tie.the-claims reads.Pre reads.Post) →
    sized (writing c.args.sheet.now c.args.line (length c.args.text.now)) ≡ finished (c.in-Ok.n ∷ [])
answers c =
    let at-write-line = c.write_line in
    sym at-write-line.ensures.0 ∙ ap lined c.in-Ok.is

small : (c : lts.Past-After-known_told tie.the-claims reads.Pre reads.Post) → c.in-Ok.n ≤ 80
small c =
    let at-shared-slice-known = c.shared_slice_known-1 in
    let t = sized-finished (writing c.args.sheet.now c.args.line (length c.args.text.now)) (answers c) in
    let short = writing-short c.args.sheet.now (lent_bytes c.args.sheet.now at-shared-slice-known.given) c.args.line (length c.args.text.now) t.is in
    omega (arith, t.count)

pub overflow_cast-result : goal.overflow_cast-result
overflow_cast-result c = record { sfits = omega (arith, small c.before) }

pub returns-in-Ok : goal.returns-in-Ok
returns-in-Ok c =
    let at-write-line = c.write_line in
    (to_z_pos w64 c.in-Ok.n (omega (arith, small c.before)) ∙ sym (ap returned_number (answers c.before)), at-write-line.ensures.1)

pub returns-in-Err : goal.returns-in-Err
returns-in-Err c =
    let at-write-line = c.write_line in
    let f = c.in-Err.refusal in
    let e : sized (writing c.args.sheet.now c.args.line (length c.args.text.now)) ≡ refused (number_of f) = sym at-write-line.ensures.0 ∙ ap lined c.in-Err.is in
    (minus_told c.from.ensures c.minus.ensures ∙ sym (ap returned_number e), at-write-line.ensures.1)
