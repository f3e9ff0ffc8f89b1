-- `reply::answer` meets its contract: the line of a refusal, or the report of the filling that was handed over. Assumes nothing.
use mathlib.Core.Path.{◌≡◌, refl, sym, ap, subst, ◌∙◌}
use mathlib.Core.List.{[]}
use Prim.Native.Nat.{◌*◌}
use native.Mathlib.Omega.{arith}
use lib.ListN.{take, replicate}
use lib.Seq.{length-take-le}
use Rattle.model.specs.Lists.{Puts, Bytes}
use Rattle.model.specs.Sheet.{sheet_of}
use Rattle.model.specs.Range.{Admitted}
use Rattle.model.specs.Filling.{filling, substitution_in}
use Rattle.calls.specs.Calls.{refused, finished, replying}
use Rattle.calls.specs.Report.{refused_line, report, printed}
use Rattle.model.proofs.Known.{accepted_in_range}
use Rattle.calls.proofs.Replying.{replying-answered}
use Rattle.calls.proofs.Untrusted.{Taken, taken, accepted_clashes, refused-is}
use Rattle.parts.proofs.Known.{lent_bytes}
use Rattle.decoding.specs.Answer.{number_of, replied}
use Rattle.reply.proofs.answer.Goals as goal
use Rattle.reply.proofs.answer.Lts as lts
use Rattle.reply.proofs.answer.Reads as reads
use Rattle.reply.proofs.answer.Tie as tie

abbrev start : lts.Past-After-enum_told tie.the-claims reads.Pre reads.Post → lts.Start tie.the-claims reads.Pre reads.Post
start c = c.before.before.before.before.before.before.before

-- the reply is accepted
clean : (c : lts.Past-After-enum_told tie.the-claims reads.Pre reads.Post) → Bytes (start c).args.sheet.now
clean c = lent_bytes (start c).args.sheet.now c.shared_slice_known-1.given

told : (c : lts.Past-After-enum_told tie.the-claims reads.Pre reads.Post) → replied c.read_reply.result ≡ finished []
told c = ap replied c.in-Ok.is

handed : (c : lts.Past-After-enum_told tie.the-claims reads.Pre reads.Post) →
    let at-read-reply = c.read_reply in
    Taken (start c).args.sheet.now (start c).args.text.now (replicate 54 0) at-read-reply.new.buf
    (replied at-read-reply.result) at-read-reply.ensures
handed c = taken (start c).args.sheet.now (start c).args.text.now (replicate 54 0) _ _ c.read_reply.ensures (clean c) (told c)

known : (c : lts.Past-After-enum_told tie.the-claims reads.Pre reads.Post) → Admitted (start c).args.sheet.now
known c =
    let ok = (replying-answered (start c).args.sheet.now (start c).args.text.now 54 (handed c).is).accepted in
    (ok, accepted_in_range (start c).args.sheet.now (clean c) ok)

pub fields-size-requires : goal.fields-size-requires
fields-size-requires c = known c.before

pub overflow_mul-size : goal.overflow_mul-size
overflow_mul-size c = let n = (known c.before.before).1.counts_in.of_fields in omega (arith, c.fields-size.ensures)

pub slice_bounds-filling-end : goal.slice_bounds-filling-end
slice_bounds-filling-end c = let n = (known c.before.before).1.counts_in.of_fields in omega (arith, c.fields-size.ensures)

pub slice_bounds-write-end : goal.slice_bounds-write-end
slice_bounds-write-end c =
    let n = (known c.before.before.before).1.counts_in.of_fields in
    sym (length-take-le (9 * c.fields-size.result) _ (omega (arith, c.fields-size.ensures)))

pub write-requires : goal.write-requires
write-requires c =
    let at_fields = c.before.before.before in
    let b = (start at_fields.before).args.sheet.now in
    let at-read-reply = at_fields.read_reply in
    let clash = (accepted_clashes b (start at_fields.before).args.text.now (replicate 54 0) at-read-reply.new.buf _ at-read-reply.ensures (clean at_fields.before) (told at_fields.before)).0 in
    (rw at_fields.fields-size.ensures clash, omega (arith, (start at_fields.before).requires))

pub returns-in-Err : goal.returns-in-Err
returns-in-Err c =
    let a = c.args in
    let e : replying a.sheet.now a.text.now 54 ≡ refused (number_of c.in-Err.refusal) = refused-is (replying a.sheet.now a.text.now 54) (sym (ap replied c.in-Err.is) ∙ c.read_reply.ensures.0) in
    let line : refused_line c.from.result ≡ printed (sheet_of a.sheet.now) (replying a.sheet.now a.text.now 54) = ap refused_line c.from.ensures ∙ sym (ap (printed (sheet_of a.sheet.now)) e) in
    let w = c.refusal in
    subst (λ p. Puts a.out.now 0 p w.new.buf w.result) line w.ensures.0

pub returns-in-Ok : goal.returns-in-Ok
returns-in-Ok c =
    let at-write = c.before.before.before in
    let at_fields = at-write.before.before.before in
    let a = (start at_fields.before).args in
    let s = sheet_of a.sheet.now in
    let e : printed s (replying a.sheet.now a.text.now 54) ≡ report s (substitution_in (filling s (take (9 * at_fields.fields-size.result) at_fields.read_reply.new.buf))) = rw (at_fields.fields-size.ensures, (handed at_fields.before).is) refl in
    subst (λ p. Puts a.out.now 0 p at-write.write.new.buf at-write.write.result) (sym e) at-write.write.ensures
