-- `c_file::file` meets its contract: what writing the file answers, handed over; a file is not too long. Assumes nothing.
use mathlib.Core.Path.{◌≡◌, sym, ap, ◌∙◌}
use mathlib.Core.List.{[], ◌∷◌}
use Prim.Native.Nat.{◌≤◌}
use native.Mathlib.Omega.{arith}
use lib.ListN.{length}
use mir.Syntax.{w64}
use mir.ValLaws.{to_z_pos}
use Rattle.formula.specs.Dimacs.{most_file}
use Rattle.calls.specs.Calls.{refused, finished, filing, sized}
use Rattle.calls.proofs.Sizes.{filing-short}
use Rattle.calls.proofs.Operations.{sized-finished}
use Rattle.parts.proofs.Known.{lent_bytes}
use Rattle.filing.specs.Answer.{number_of, filed}
use Rattle.c_answer.specs.Returned.{returned_number}
use Rattle.c_answer.proofs.Negated.{minus_told}
use Rattle.c_file.proofs.file.Goals as goal
use Rattle.c_file.proofs.file.Lts as lts
use Rattle.c_file.proofs.file.Reads as reads
use Rattle.c_file.proofs.file.Tie as tie

-- the answer is a length, of the file that was written
answers : (c : lts.Past-After-known_told tie.the-claims reads.Pre reads.Post) →
    sized (filing c.args.sheet.now (length c.args.file.now)) ≡ finished (c.in-Ok.n ∷ [])
answers c =
    let at-write-file = c.write_file in
    sym at-write-file.ensures.0 ∙ ap filed c.in-Ok.is

small : (c : lts.Past-After-known_told tie.the-claims reads.Pre reads.Post) → c.in-Ok.n ≤ most_file
small c =
    let at-shared-slice-known = c.shared_slice_known-1 in
    let t = sized-finished (filing c.args.sheet.now (length c.args.file.now)) (answers c) in
    let short = filing-short c.args.sheet.now (lent_bytes c.args.sheet.now at-shared-slice-known.given) (length c.args.file.now) t.is in
    omega (arith, t.count)

pub overflow_cast-result : goal.overflow_cast-result
overflow_cast-result c = record { sfits = omega (arith, small c.before) }

pub returns-in-Ok : goal.returns-in-Ok
returns-in-Ok c =
    let at-write-file = c.write_file in
    (to_z_pos w64 c.in-Ok.n (omega (arith, small c.before)) ∙ sym (ap returned_number (answers c.before)), at-write-file.ensures.1)

pub returns-in-Err : goal.returns-in-Err
returns-in-Err c =
    let at-write-file = c.write_file in
    let f = c.in-Err.refusal in
    let e : sized (filing c.args.sheet.now (length c.args.file.now)) ≡ refused (number_of f) = sym at-write-file.ensures.0 ∙ ap filed c.in-Err.is in
    (minus_told c.from.ensures c.minus.ensures ∙ sym (ap returned_number e), at-write-file.ensures.1)
