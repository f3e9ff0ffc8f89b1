-- `mismatch::compare_sides` meets its contract: the two words that were spelled are those of the templates. Assumes nothing.
use mathlib.Core.Path.{◌∙◌}
use mathlib.Core.List.{List, map}
use Prim.Native.Nat.{ℕ}
use lib.ListN.{replicate}
use Rattle.model.specs.Sheet.{sheet_of, symbol_of}
use Rattle.model.specs.Word.{spell}
use Rattle.model.proofs.Seams.{front_is, front_fits, front_length}
use Rattle.fields.specs.Memory.{texts_of}
use Rattle.words.proofs.Meaning.{word-is, can_spell}
use Rattle.mismatch.proofs.compare_sides.Goals as goal
use Rattle.mismatch.proofs.compare_sides.Lts as lts
use Rattle.mismatch.proofs.compare_sides.Reads as reads
use Rattle.mismatch.proofs.compare_sides.Tie as tie

pub template-requires : goal.template-requires
template-requires c =
    (c.requires.0.accepted, c.requires.1)

pub spell-m-requires : goal.spell-m-requires
spell-m-requires c =
    can_spell c.args.sheet.now c.args.g c.requires.0 c.args.p 0 c.requires.1 c.template.result.now c.template.ensures

pub template-requires-2 : goal.template-requires-2
template-requires-2 c =
    (c.requires.0.accepted, c.requires.1)

pub spell-n-requires : goal.spell-n-requires
spell-n-requires c =
    can_spell c.args.sheet.now c.args.g c.requires.0 c.args.p 1 c.requires.1 c.template-2.result.now c.template-2.ensures

-- the words that are spelled
abbrev left_word : (c : lts.After-template tie.the-claims reads.Pre reads.Post) → List ℕ
left_word c = spell (texts_of c.args.g) (map symbol_of c.template.result.now)

abbrev right-word : (c : lts.After-template2 tie.the-claims reads.Pre reads.Post) → List ℕ
right-word c = spell (texts_of c.args.g) (map symbol_of c.template-2.result.now)

pub slice_bounds-left-end : goal.slice_bounds-left-end
slice_bounds-left-end c =
    let at-spell = c.spell-m in
    front_fits (replicate 24 0) (left_word c.before.before.before.before.before.before.before) at-spell.new.word at-spell.result at-spell.ensures

pub slice_bounds-compare-end : goal.slice_bounds-compare-end
slice_bounds-compare-end c =
    let at-spell = c.spell-m in
    front_length (replicate 24 0) (left_word c.before.before.before.before.before.before.before.before) at-spell.new.word at-spell.result at-spell.ensures

pub slice_bounds-right-end : goal.slice_bounds-right-end
slice_bounds-right-end c =
    let at-spell2 = c.spell-n in
    front_fits (replicate 24 0) (right-word c.before.before.before.before) at-spell2.new.word at-spell2.result at-spell2.ensures

pub slice_bounds-compare-end-2 : goal.slice_bounds-compare-end-2
slice_bounds-compare-end-2 c =
    let at-spell2 = c.spell-n in
    front_length (replicate 24 0) (right-word c.before.before.before.before.before) at-spell2.new.word at-spell2.result at-spell2.ensures

pub returns : goal.returns
returns c =
    let at-spell = c.spell-m in
    let at-template = c.template in
    let at-spell2 = c.spell-n in
    let at-template2 = c.template-2 in
    let a = c.args in
    let left = front_is (replicate 24 0) (left_word c.before.before.before.before.before.before.before.before.before.before) at-spell.new.word at-spell.result at-spell.ensures ∙ word-is a.sheet.now a.g c.requires.0 a.p 0 c.requires.1 at-template.result.now at-template.ensures in
    let right = front_is (replicate 24 0) (right-word c.before.before.before.before.before.before) at-spell2.new.word at-spell2.result at-spell2.ensures ∙ word-is a.sheet.now a.g c.requires.0 a.p 1 c.requires.1 at-template2.result.now at-template2.ensures in
    rw (left, right) at (c.compare.ensures (sheet_of a.sheet.now))
