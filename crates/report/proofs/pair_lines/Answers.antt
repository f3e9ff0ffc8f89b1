-- `report::pair_lines` meets its contract. The loop's invariant: the first p lines have been written. Assumes nothing.
use mathlib.Core.Path.{◌≡◌, sym, ap, subst, ◌∙◌}
use mathlib.Core.List.{List, map}
use Prim.Native.Nat.{ℕ, ◌<◌}
use native.Mathlib.Omega.{arith}
use lib.ListN.{length, take, replicate}
use Rattle.model.specs.Lists.{All, Puts}
use Rattle.model.specs.Sheet.{Counts, sheet_of, equation, template, symbol_of, symbol_byte}
use Rattle.model.specs.Word.{spell, letter_bytes}
use Rattle.calls.specs.Report.{labelled_line, pair_name, pair_line}
use Rattle.model.proofs.Seams.{front_is, front_fits}
use Rattle.model.proofs.Pieces.{loop_none, loop_room, loop_next, loop_done}
use Rattle.model.proofs.Templates.{template_in}
use Rattle.model.proofs.Words.{spell_over}
use Rattle.fields.specs.Memory.{texts_of, meaning, Held}
use Rattle.fields.specs.declared.Field.{Field}
use Rattle.words.proofs.Meaning.{word-is, can_spell}
use Rattle.report.proofs.Sizes.{line-room}
use Rattle.report.proofs.pair_lines.Goals as goal

-- the left side's word, as it was spelled
the_word : (b : List ℕ) (g : List Field) (ok : Held b g) (p k : ℕ) → p < length (sheet_of b).equations → k ≡ p → (t : List ℕ) → t ≡ map symbol_byte (template (sheet_of b) k 0)
    → (w : List ℕ) (n : ℕ) → Puts (replicate 24 0) 0 (spell (texts_of g) (map symbol_of t)) w n → take n w ≡ spell (meaning b g) (equation (sheet_of b) p).left
the_word b g ok p k h e t is w n puts =
    front_is (replicate 24 0) (spell (texts_of g) (map symbol_of t)) w n puts
    ∙ word-is b g ok k 0 (omega arith) t is
    ∙ ap (λ p. spell (meaning b g) (equation (sheet_of b) p).left) e

pub four_counts-equations-requires : goal.four_counts-equations-requires
four_counts-equations-requires c = c.requires.0.accepted

pub loop-p-init : goal.loop-p-init
loop-p-init c = loop_none (pair_line (sheet_of c.args.sheet.now) (meaning c.args.sheet.now c.args.g))

pub template-requires : goal.template-requires
template-requires c =
    let a = c.args in
    let b = a.sheet.now in
    let ok = c.requires.0 in
    let counted = ap (λ (n : Counts). n.equation_count) c.four_counts-equations.ensures in
    let p = c.loop-p.p in
    let h : p < length (sheet_of b).equations = omega arith in
    (ok.accepted, omega (arith, c.from.ensures))

pub spell-n-requires : goal.spell-n-requires
spell-n-requires c =
    let a = c.args in
    let b = a.sheet.now in
    let ok = c.requires.0 in
    let counted = ap (λ (n : Counts). n.equation_count) c.four_counts-equations.ensures in
    let p = c.loop-p.p in
    let h : p < length (sheet_of b).equations = omega arith in
    can_spell b a.g ok c.from.result 0 (omega (arith, c.from.ensures)) c.template.result.now c.template.ensures

pub slice_bounds-word-end : goal.slice_bounds-word-end
slice_bounds-word-end c =
    front_fits (replicate 24 0) (spell (texts_of c.args.g) (map symbol_of c.template.result.now)) c.spell-n.new.word c.spell-n.result c.spell-n.ensures

pub line-past-requires : goal.line-past-requires
line-past-requires c =
    let a = c.args in
    let b = a.sheet.now in
    let ok = c.requires.0 in
    let counted = ap (λ (n : Counts). n.equation_count) c.four_counts-equations.ensures in
    let p = c.loop-p.p in
    let h : p < length (sheet_of b).equations = omega arith in
    let is = the_word b a.g ok p c.from.result h c.from.ensures c.template.result.now c.template.ensures c.spell-n.new.word c.spell-n.result c.spell-n.ensures in
    let s = sheet_of b in
    let over = spell_over s (meaning b a.g) ok.legal (equation s p).left (template_in s ok.in_range p h 0).symbols in
    let room = loop_room (pair_line s (meaning b a.g)) (length s.equations) c.requires.1 c.loop-p.invariant h in
    (ok.accepted, subst (All (λ x. x < length s.letters)) (sym is) over, omega (arith, ok.in_range.counts_in), line-room s pair_name p is c.loop-p.past (length c.loop-p.buf) room)

pub loop-p-preserved : goal.loop-p-preserved
loop-p-preserved c =
    let a = c.args in
    let b = a.sheet.now in
    let ok = c.requires.0 in
    let counted = ap (λ (n : Counts). n.equation_count) c.four_counts-equations.ensures in
    let p = c.loop-p.p in
    let h : p < length (sheet_of b).equations = omega arith in
    let is = the_word b a.g ok p c.from.result h c.from.ensures c.template.result.now c.template.ensures c.spell-n.new.word c.spell-n.result c.spell-n.ensures in
    let s = sheet_of b in
    let l = c.loop-p in
    let at-line = c.line-past in
    let piece = ap (λ w. labelled_line pair_name p (letter_bytes s w)) is in
    loop_next (pair_line s (meaning b a.g)) (length s.equations) c.requires.1 l.invariant h at-line.new.buf at-line.result
    (subst (λ q. Puts l.buf l.past q at-line.new.buf at-line.result) piece at-line.ensures) at-line.auto.buf

pub shape_of-buf : goal.shape_of-buf
shape_of-buf c = c.loop-p.invariant.long

pub returns : goal.returns
returns c =
    let b = c.args.sheet.now in
    let counted = ap (λ (n : Counts). n.equation_count) c.four_counts-equations.ensures in
    loop_done (pair_line (sheet_of b) (meaning b c.args.g)) (length (sheet_of b).equations) c.requires.1 c.loop-p.invariant (omega arith)
