-- `substitution::spell_filling` meets its contract: the filling's refusal, too short a buffer, or the text. Assumes nothing.
use mathlib.Core.Path.{◌≡◌, sym, ap, subst, ◌∙◌}
use mathlib.Core.List.{List, [], ◌∷◌, map}
use Prim.Native.Nat.{ℕ, ◌<◌}
use native.Mathlib.Omega.{arith}
use lib.ListN.{length, take, replicate, length-map}
use Rattle.std.proofs.lemmas.Result.{err_from_is_err_and}
use Rattle.model.specs.Lists.{All, placed}
use Rattle.model.specs.Sheet.{sheet_of, template, symbol_of, letter_of}
use Rattle.model.specs.Word.{spell, letter_bytes}
use Rattle.calls.specs.Calls.{finished, spelled_text}
use Rattle.model.proofs.Seams.{front_is, front_fits, front_length, placed_front}
use Rattle.model.proofs.Templates.{template_in}
use Rattle.model.proofs.Words.{spell_over}
use Rattle.calls.proofs.Operations.{spelling-filling, spelling-room, spelling-text, leaves_all, leaves_text}
use Rattle.fields.specs.Memory.{texts_of, meaning}
use Rattle.words.proofs.Meaning.{word-is, can_spell}
use Rattle.substitution.proofs.spell_filling.Goals as goal
use Rattle.substitution.proofs.spell_filling.Lts as lts
use Rattle.substitution.proofs.spell_filling.Reads as reads
use Rattle.substitution.proofs.spell_filling.Tie as tie

pub admit-requires : goal.admit-requires
admit-requires c =
    c.requires.0

pub load-g-requires : goal.load-g-requires
load-g-requires c =
    (c.requires.0, sym (c.in_ok-admit.ensures {u = tt}))

pub template-requires : goal.template-requires
template-requires c =
    (c.requires.0, c.requires.1)

pub spell-n-requires : goal.spell-n-requires
spell-n-requires c =
    let at_load = c.load-g in
    can_spell c.args.sheet.now at_load.result at_load.ensures.0 c.args.equation c.args.side c.requires.1 c.template.result.now c.template.ensures

-- the word that is spelled
abbrev written-word : (c : lts.After-template tie.the-claims reads.Pre reads.Post tie.handed_clauses) → List ℕ
written-word c = spell (texts_of c.load-g.result) (map symbol_of c.template.result.now)

word-there : (c : lts.After-word2 tie.the-claims reads.Pre reads.Post tie.handed_clauses) →
    take c.spell-n.result c.spell-n.new.word ≡ spell (meaning c.args.sheet.now c.load-g.result) (template (sheet_of c.args.sheet.now) c.args.equation c.args.side)
word-there c =
    let at_load = c.load-g in
    let at-template = c.template in
    front_is (replicate 24 0) (written-word c.before.before) c.spell-n.new.word c.spell-n.result c.spell-n.ensures
    ∙ word-is c.args.sheet.now at_load.result at_load.ensures.0 c.args.equation c.args.side c.requires.1 at-template.result.now at-template.ensures

text-length : (c : lts.After-word2 tie.the-claims reads.Pre reads.Post tie.handed_clauses) →
    c.spell-n.result ≡ length (spelled_text (sheet_of c.args.sheet.now) c.args.equation c.args.side (meaning c.args.sheet.now c.load-g.result))
text-length c =
    let at_load = c.load-g in
    front_length (replicate 24 0) (written-word c.before.before) c.spell-n.new.word c.spell-n.result c.spell-n.ensures
    ∙ ap length (word-there c)
    ∙ sym (length-map (spell (meaning c.args.sheet.now at_load.result) (template (sheet_of c.args.sheet.now) c.args.equation c.args.side)) (letter_of (sheet_of c.args.sheet.now)))

pub returns-then-buf-n : goal.returns-then-buf-n
returns-then-buf-n c =
    let at_load = c.load-g in
    let a = c.args in
    leaves_all 26 a.buf.now (spelling-room (sheet_of a.sheet.now) a.equation a.side a.bytes.now (length a.buf.now) at_load.ensures.1 (omega (arith, c.if-buf-n.true, text-length c.before.before)))

pub slice_bounds-word-end : goal.slice_bounds-word-end
slice_bounds-word-end c =
    let at-spell = c.spell-n in
    front_fits (replicate 24 0) (written-word c.before.before.before.before.before) at-spell.new.word at-spell.result at-spell.ensures

pub slice_bounds-put_letters-end : goal.slice_bounds-put_letters-end
slice_bounds-put_letters-end c =
    let at-spell = c.spell-n in
    front_length (replicate 24 0) (written-word c.before.before.before.before.before.before) at-spell.new.word at-spell.result at-spell.ensures

pub put_letters-requires : goal.put_letters-requires
put_letters-requires c =
    let at_load = c.load-g in
    let at-if1 = c.if-buf-n in
    let at-spell = c.spell-n in
    let a = c.args in
    let s = sheet_of a.sheet.now in
    let t = template_in s at_load.ensures.0.in_range a.equation c.requires.1 a.side in
    let over = spell_over s (meaning a.sheet.now at_load.result) at_load.ensures.0.legal (template s a.equation a.side) t.symbols in
    (c.requires.0, subst (All (λ x. x < length s.letters)) (sym (word-there c.before.before.before.before)) over, omega (arith, at-if1.false, front_length (replicate 24 0) (written-word c.before.before.before.before.before.before) at-spell.new.word at-spell.result at-spell.ensures))

pub returns-in_err-admit : goal.returns-in_err-admit
returns-in_err-admit c =
    let told = err_from_is_err_and c.from_residual.result c.from_residual.ensures.1 in
    let a = c.args in
    rw (told.1, told.2) (leaves_all _ a.buf.now (spelling-filling (sheet_of a.sheet.now) a.equation a.side a.bytes.now (length a.buf.now) _ (sym (c.in_err-admit.ensures {u = tt}))))

pub returns : goal.returns
returns c =
    let at_load = c.load-g in
    let at-if1 = c.if-buf-n in
    let at-put-letters = c.put_letters in
    let a = c.args in
    let s = sheet_of a.sheet.now in
    let text = spelled_text s a.equation a.side (meaning a.sheet.now at_load.result) in
    let n = text-length c.before.before.before.before.before.before.before in
    let said = leaves_text text a.buf.now (spelling-text s a.equation a.side a.bytes.now (length a.buf.now) at_load.ensures.1 (omega (arith, at-if1.false))) in
    let there = word-there c.before.before.before.before.before.before.before in
    let same_size = ap (λ w. length (letter_bytes s w)) there in
    let e : at-put-letters.result ≡ length text = omega (arith, at-put-letters.ensures.0, same_size) in
    let holds = at-put-letters.ensures.1 ∙ ap (λ w. placed a.buf.now 0 (letter_bytes s w)) there ∙ placed_front a.buf.now text in
    (ap (λ k. finished (k ∷ [])) e ∙ said.0, holds ∙ said.1)
