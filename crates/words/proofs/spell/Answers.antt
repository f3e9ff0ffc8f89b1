-- `words::spell` meets its contract. The loop's invariant: what the first i symbols spell has been written. Assumes nothing.
use mathlib.Core.Path.{◌≡◌, sym, subst}
use mathlib.Core.List.{map}
use Prim.Native.Nat.{◌+◌, ◌<◌}
use native.Mathlib.Omega.{arith}
use lib.ListN.{get_or, take, length-map}
use lib.Seq.{take_all}
use Rattle.model.specs.Sheet.{symbol_of}
use Rattle.model.specs.Word.{spell, symbol_word}
use Rattle.model.proofs.Lists.{at}
use Rattle.model.proofs.Words.{spell-none}
use Rattle.model.proofs.Seams.{Written, nothing, more}
use Rattle.fields.specs.Memory.{texts_of}
use Rattle.words.proofs.Symbols.{spelled-more, spelled-room}
use Rattle.words.proofs.spell.Goals as goal

pub loop-symbol-init : goal.loop-symbol-init
loop-symbol-init c =
    let word = c.args.word.now in
    subst (λ p. Written word 0 p word 0) (sym (spell-none (texts_of c.args.g))) (nothing word 0)

pub put_symbol-at-requires : goal.put_symbol-at-requires
put_symbol-at-requires c =
    let at-loop = c.loop-symbol in
    let at-loop-test = c.loop-symbol-test in
    let a = c.args in
    let l = at-loop in
    (c.requires.0, at (λ x. x < 128 + 6) a.template.now l.symbol-index 0 c.requires.1 at-loop-test.true, omega (arith, l.invariant, c.requires.2, spelled-room a.g a.template.now l.symbol-index at-loop-test.true))

pub loop-symbol-preserved : goal.loop-symbol-preserved
loop-symbol-preserved c =
    let at-loop = c.loop-symbol in
    let at-loop-test = c.loop-symbol-test in
    let at-put-symbol = c.put_symbol-at in
    let a = c.args in
    let l = at-loop in
    let room = spelled-room a.g a.template.now l.symbol-index at-loop-test.true in
    let q = symbol_word (texts_of a.g) (symbol_of (get_or a.template.now l.symbol-index 0)) in
    let next = more q at-put-symbol.new.word at-put-symbol.result l.invariant at-put-symbol.ensures at-put-symbol.auto.word (omega (arith, c.requires.2)) in
    subst (λ p. Written a.word.now 0 p at-put-symbol.new.word at-put-symbol.result) (sym (spelled-more a.g a.template.now l.symbol-index at-loop-test.true)) next

pub shape_of-word : goal.shape_of-word
shape_of-word c = c.loop-symbol.invariant.long

pub returns : goal.returns
returns c =
    let a = c.args in
    let l = c.loop-symbol in
    let n = length-map a.template.now symbol_of in
    let e : take l.symbol-index (map symbol_of a.template.now) ≡ map symbol_of a.template.now = take_all l.symbol-index (map symbol_of a.template.now) (omega arith) in
    let w = subst (λ t. Written a.word.now 0 (spell (texts_of a.g) t) l.word l.at) e l.invariant in
    (omega (arith, w.past), w.holds)
