-- `words::put_symbol` meets its contract: the letter alone, or the first places of its field. Assumes nothing.
use mathlib.Core.Path.{◌≡◌, sym, ap, ◌∙◌}
use mathlib.Core.List.{List}
use Prim.Native.Nat.{ℕ, ◌-◌, ◌≤◌}
use native.Mathlib.Omega.{arith}
use lib.ListN.{length, take}
use Rattle.model.specs.Sheet.{symbol_of}
use Rattle.model.specs.Word.{symbol_word}
use Rattle.fields.specs.declared.Field.{Field}
use Rattle.fields.specs.Memory.{text_of, texts_of, field}
use Rattle.words.proofs.Symbols.{letter-word, field-word, whole-at}
use Rattle.words.proofs.put_symbol.Goals as goal

pub put-requires : goal.put-requires
put-requires c =
    let at-if1 = c.if-symbol-lt-FIRST_FIELD in
    let e = ap length (letter-word c.args.g c.args.symbol at-if1.true) in
    omega (arith, c.requires.2)

pub returns-then-symbol-lt-FIRST_FIELD : goal.returns-then-symbol-lt-FIRST_FIELD
returns-then-symbol-lt-FIRST_FIELD c =
    let at-if1 = c.if-symbol-lt-FIRST_FIELD in
    let at-put = c.put in
    let a = c.args in
    let e = letter-word a.g a.symbol at-if1.true in
    rw e at-put.ensures

-- the field that the symbol names
is_text : (g : List Field) (x n : ℕ) → n ≡ x - 128 → 128 ≤ x → symbol_word (texts_of g) (symbol_of x) ≡ text_of (field g n)
is_text g x n e h = field-word g x h ∙ ap (λ f. text_of (field g f)) (sym e)

pub shared_ref_as_front-put : goal.shared_ref_as_front-put
shared_ref_as_front-put c =
    let w = whole-at c.args.g c.from.result c.requires.0 (omega (arith, c.requires.1)) in
    omega (arith, w)

pub put-requires-2 : goal.put-requires-2
put-requires-2 c =
    let e = ap length (is_text c.args.g c.args.symbol c.from.result c.from.ensures c.if-symbol-lt-FIRST_FIELD.false) in
    let n = ap (λ n. length (take n (field c.args.g c.from.result).letters)) c.from-2.ensures in
    omega (arith, c.requires.2)

pub returns : goal.returns
returns c =
    let t = is_text c.args.g c.args.symbol c.from.result c.from.ensures c.if-symbol-lt-FIRST_FIELD.false in
    let n = ap (λ n. take n (field c.args.g c.from.result).letters) c.from-2.ensures in
    rw (t, ← n) c.put-2.ensures
