-- `report::field_lines` meets its contract. The loop's invariant: the first f lines have been written. Assumes nothing.
use mathlib.Core.Path.{◌≡◌, sym, ap, subst, ◌∙◌}
use mathlib.Core.List.{List}
use Prim.Native.Nat.{ℕ, ◌<◌}
use native.Mathlib.Omega.{arith}
use lib.ListN.{length, take}
use Rattle.model.specs.Lists.{All, Puts}
use Rattle.model.specs.Sheet.{Counts, sheet_of}
use Rattle.model.specs.Word.{text, letter_bytes}
use Rattle.calls.specs.Report.{labelled_line, field_name, field_line}
use Rattle.model.proofs.Pieces.{loop_none, loop_room, loop_next, loop_done}
use Rattle.fields.specs.declared.Field.{Field}
use Rattle.fields.specs.Memory.{text_of, field, Whole, meaning, Held}
use Rattle.words.proofs.Meaning.{text_at_lem, field-whole}
use Rattle.report.proofs.Sizes.{line-room}
use Rattle.report.proofs.field_lines.Goals as goal

-- a field's text, as the code reads it
the_word : (b : List ℕ) (g : List Field) → Held b g → (f n len : ℕ) → f < length (sheet_of b).limits → n ≡ f → len ≡ (field g n).len
    → take len (field g n).letters ≡ text (meaning b g) f
the_word b g ok f n len h e l =
    ap (λ k. take k (field g n).letters) l ∙ ap (λ f. text_of (field g f)) e ∙ sym (text_at_lem b g ok f h)

pub four_counts-fields-requires : goal.four_counts-fields-requires
four_counts-fields-requires c = c.requires.0.accepted

pub loop-f-init : goal.loop-f-init
loop-f-init c = loop_none (field_line (sheet_of c.args.sheet.now) (meaning c.args.sheet.now c.args.g))

pub bounds-g-from : goal.bounds-g-from
bounds-g-from c =
    let a = c.args in
    let b = a.sheet.now in
    let ok = c.requires.0 in
    let counted = ap (λ (n : Counts). n.field_count) c.four_counts-fields.ensures in
    omega (arith, ok.in_range.counts_in.of_fields)

pub shared_ref_as_front-letters : goal.shared_ref_as_front-letters
shared_ref_as_front-letters c =
    let a = c.args in
    let b = a.sheet.now in
    let ok = c.requires.0 in
    let counted = ap (λ (n : Counts). n.field_count) c.four_counts-fields.ensures in
    let f = c.loop-f.f in
    let w = subst (λ k. Whole (field a.g k)) (sym c.from.ensures) (field-whole b a.g ok f (omega arith)) in
    omega (arith, w)

pub line-past-requires : goal.line-past-requires
line-past-requires c =
    let a = c.args in
    let b = a.sheet.now in
    let ok = c.requires.0 in
    let counted = ap (λ (n : Counts). n.field_count) c.four_counts-fields.ensures in
    let f = c.loop-f.f in
    let h : f < length (sheet_of b).limits = omega arith in
    let is = the_word b a.g ok f c.from.result c.from-in-loop-f.result h c.from.ensures c.from-in-loop-f.ensures in
    let s = sheet_of b in
    let room = loop_room (field_line s (meaning b a.g)) (length s.limits) c.requires.1 c.loop-f.invariant h in
    (ok.accepted, subst (All (λ x. x < length s.letters)) (sym is) (ok.legal.admits f h).over_letters, omega (arith, ok.in_range.counts_in), line-room s field_name f is c.loop-f.past (length c.loop-f.buf) room)

pub loop-f-preserved : goal.loop-f-preserved
loop-f-preserved c =
    let a = c.args in
    let b = a.sheet.now in
    let ok = c.requires.0 in
    let counted = ap (λ (n : Counts). n.field_count) c.four_counts-fields.ensures in
    let f = c.loop-f.f in
    let h : f < length (sheet_of b).limits = omega arith in
    let is = the_word b a.g ok f c.from.result c.from-in-loop-f.result h c.from.ensures c.from-in-loop-f.ensures in
    let s = sheet_of b in
    let l = c.loop-f in
    let at-line = c.line-past in
    let piece = ap (λ w. labelled_line field_name f (letter_bytes s w)) is in
    loop_next (field_line s (meaning b a.g)) (length s.limits) c.requires.1 l.invariant h at-line.new.buf at-line.result
    (subst (λ q. Puts l.buf l.past q at-line.new.buf at-line.result) piece at-line.ensures) at-line.auto.buf

pub shape_of-buf : goal.shape_of-buf
shape_of-buf c = c.loop-f.invariant.long

pub returns : goal.returns
returns c =
    let a = c.args in
    let b = a.sheet.now in
    let ok = c.requires.0 in
    let counted = ap (λ (n : Counts). n.field_count) c.four_counts-fields.ensures in
    loop_done (field_line (sheet_of b) (meaning b a.g)) (length (sheet_of b).limits) c.requires.1 c.loop-f.invariant (omega arith)
