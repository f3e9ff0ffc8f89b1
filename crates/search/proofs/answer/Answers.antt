-- `search::answer` meets its contract: the line of a refusal, `apart`, or the report of the filling that was handed over. Assumes nothing.
use mathlib.Core.Path.{◌≡◌, sym, ap, ◌∙◌}
use mathlib.Core.Bool.{true}
use mathlib.Core.List.{List}
use Prim.Native.Nat.{ℕ, ◌*◌, ◌≤◌}
use native.Mathlib.Omega.{arith}
use lib.ListN.{length, replicate}
use lib.Seq.{length-take-le}
use Rattle.model.specs.Lists.{Bytes}
use Rattle.model.specs.Range.{Admitted}
use Rattle.calls.specs.Calls.{Answer, refused, verdict, decision, searching, Decides}
use Rattle.model.proofs.Known.{accepted_in_range}
use Rattle.calls.proofs.Searching.{clash-accepted, clash_checks, prints_refused, prints_apart, prints_clash}
use Rattle.parts.proofs.Known.{lent_bytes}
use Rattle.std.specs.Prelude.{Result, Ok}
use Rattle.automaton.specs.declared.Refusal.{Refusal}
use Rattle.automaton.specs.declared.Verdict.{Verdict}
use Rattle.automaton.specs.declared.Verdict.TheVariants.{Solution}
use Rattle.automaton.specs.Answer.{searched, verdict_of}
use Rattle.search.proofs.answer.Goals as goal

-- there is a clash: it was handed over, so the sheet is accepted
abbrev HandedOver : List ℕ → List ℕ → Type 0
HandedOver b filled = Decides (searching b (length {A = ℕ} (replicate 54 0))) (replicate 54 0) (verdict true) filled

known : (b filled : List ℕ) → Bytes b → HandedOver b filled → Admitted b
known b filled lent clash =
    let ok = clash-accepted b (replicate 54 0) filled clash in
    (ok, accepted_in_range b lent ok)

handed : (b filled : List ℕ) (r : Result Verdict Refusal) (v : Verdict) → r ≡ Ok v → v ≡ Solution → Decides (searching b (length {A = ℕ} (replicate 54 0))) (replicate 54 0) (searched r) filled → HandedOver b filled
handed b filled r v is solution call = (sym (ap searched is ∙ ap verdict_of solution) ∙ call.0, call.1)

pub fields-size-requires : goal.fields-size-requires
fields-size-requires c = known c.args.sheet.now c.search.new.buf (lent_bytes c.args.sheet.now c.type_inv.sheet) (handed c.args.sheet.now c.search.new.buf c.search.result c.in-Ok-Solution.field-0 c.in-Ok-Solution.is c.in-Ok-Solution.field-0-is c.search.ensures)

pub overflow_mul-size : goal.overflow_mul-size
overflow_mul-size c =
    let n = (known c.args.sheet.now c.search.new.buf (lent_bytes c.args.sheet.now c.type_inv.sheet) (handed c.args.sheet.now c.search.new.buf c.search.result c.in-Ok-Solution.field-0 c.in-Ok-Solution.is c.in-Ok-Solution.field-0-is c.search.ensures)).1.counts_in.of_fields in
    omega (arith, c.fields-size.ensures)

pub slice_bounds-filling-end : goal.slice_bounds-filling-end
slice_bounds-filling-end c =
    let n = (known c.args.sheet.now c.search.new.buf (lent_bytes c.args.sheet.now c.type_inv.sheet) (handed c.args.sheet.now c.search.new.buf c.search.result c.in-Ok-Solution.field-0 c.in-Ok-Solution.is c.in-Ok-Solution.field-0-is c.search.ensures)).1.counts_in.of_fields in
    omega (arith, c.fields-size.ensures)

pub slice_bounds-write-end : goal.slice_bounds-write-end
slice_bounds-write-end c =
    let n = (known c.args.sheet.now c.search.new.buf (lent_bytes c.args.sheet.now c.type_inv.sheet) (handed c.args.sheet.now c.search.new.buf c.search.result c.in-Ok-Solution.field-0 c.in-Ok-Solution.is c.in-Ok-Solution.field-0-is c.search.ensures)).1.counts_in.of_fields in
    sym (length-take-le (9 * c.fields-size.result) _ (omega (arith, c.fields-size.ensures)))

pub write-requires : goal.write-requires
write-requires c =
    (rw c.fields-size.ensures (clash_checks c.args.sheet.now (replicate 54 0) _ (handed c.args.sheet.now c.search.new.buf c.search.result c.in-Ok-Solution.field-0 c.in-Ok-Solution.is c.in-Ok-Solution.field-0-is c.search.ensures) (lent_bytes c.args.sheet.now c.type_inv.sheet)), omega (arith, c.requires))

pub returns-in-Err : goal.returns-in-Err
returns-in-Err c =
    let told = ap refused c.from.ensures ∙ sym (ap searched c.in-Err.is) ∙ c.search.ensures.0 in
    rw (prints_refused c.args.sheet.now told) c.refusal.ensures.0

pub returns-in-Ok-Unsatisfiable : goal.returns-in-Ok-Unsatisfiable
returns-in-Ok-Unsatisfiable c =
    rw (prints_apart c.args.sheet.now (sym (ap searched c.in-Ok-Unsatisfiable.is ∙ ap verdict_of c.in-Ok-Unsatisfiable.field-0-is) ∙ c.search.ensures.0)) c.put.ensures

pub returns-in-Ok-Solution : goal.returns-in-Ok-Solution
returns-in-Ok-Solution c =
    rw (prints_clash c.args.sheet.now (lent_bytes c.args.sheet.now c.type_inv.sheet) (replicate 54 0) _ (handed c.args.sheet.now c.search.new.buf c.search.result c.in-Ok-Solution.field-0 c.in-Ok-Solution.is c.in-Ok-Solution.field-0-is c.search.ensures), sym c.fields-size.ensures) c.write.ensures
