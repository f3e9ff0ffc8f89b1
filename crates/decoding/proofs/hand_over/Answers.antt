-- `decoding::hand_over` meets its contract: the refusals 37 to 39 in their order, or the filling's bytes. Assumes nothing.
use mathlib.Core.Path.{sym, ap, ◌∙◌}
use mathlib.Core.List.{◌++◌}
use Prim.Native.Nat.{◌*◌}
use lib.ListN.{length, take, drop}
use Rattle.model.specs.Sheet.{sheet_of}
use Rattle.model.specs.Word as word
use Rattle.model.specs.Filling.{encode_filling}
use Rattle.formula.specs.Assignment.{truth}
use Rattle.formula.specs.Assignment as assignment
use Rattle.calls.proofs.Decoded.{decoding-place, decoding-blank, decoding_fails, decoding_hands, spelled-sized}
use Rattle.calls.proofs.Operations.{keeps_all, hands_values}
use Rattle.fields.specs.Memory.{texts_of}
use Rattle.decoding.proofs.hand_over.Goals as goal

pub returns-then-not-all_single : goal.returns-then-not-all_single
returns-then-not-all_single c =
    let single = sym c.all_single.ensures ∙ c.if-not-all_single.true in
    keeps_all 37 c.args.buf.now (decoding-place (sheet_of c.args.sheet.now) (truth c.args.marks.now) single)

pub returns-then-not-none_after_blank : goal.returns-then-not-none_after_blank
returns-then-not-none_after_blank c =
    let ones = sym c.all_single.ensures ∙ c.if-not-all_single.false in
    let last = sym c.none_after_blank.ensures ∙ c.if-not-none_after_blank.true in
    keeps_all 38 c.args.buf.now (decoding-blank (sheet_of c.args.sheet.now) (truth c.args.marks.now) ones last)

pub returns-then-not-solves : goal.returns-then-not-solves
returns-then-not-solves c =
    let s = sheet_of c.args.sheet.now in
    let ones = sym c.all_single.ensures ∙ c.if-not-all_single.false in
    let lasts = sym c.none_after_blank.ensures ∙ c.if-not-none_after_blank.false in
    let fails = ap (word.solves s) (sym c.spelled-g.ensures.1) ∙ sym c.solves.ensures ∙ c.if-not-solves.true in
    keeps_all 39 c.args.buf.now (decoding_fails s (truth c.args.marks.now) ones lasts fails)

pub returns : goal.returns
returns c =
    let s = sheet_of c.args.sheet.now in
    let w = truth c.args.marks.now in
    let buf = c.args.buf.now in
    let g = c.spelled-g.result in
    let means = c.spelled-g.ensures.1 in
    let ones = sym c.all_single.ensures ∙ c.if-not-all_single.false in
    let lasts = sym c.none_after_blank.ensures ∙ c.if-not-none_after_blank.false in
    let solved = ap (word.solves s) (sym means) ∙ sym c.solves.ensures ∙ c.if-not-solves.false in
    let handed = hands_values (encode_filling (assignment.spelled s w)) buf (decoding_hands s w ones lasts solved) in
    let sized = spelled-sized s c.requires.0.0.1 w in
    let bytes = c.store.ensures
    ∙ ap (λ k. encode_filling (take k (texts_of g)) ++ drop (9 * k) buf) c.fields.ensures
    ∙ ap (λ (h : word.Substitution). encode_filling h ++ drop (9 * length s.limits) buf) means
    ∙ ap (λ k. encode_filling (assignment.spelled s w) ++ drop k buf) (sym sized) in
    (handed.0, bytes ∙ handed.1)
