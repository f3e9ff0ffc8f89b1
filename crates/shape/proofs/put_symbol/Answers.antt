-- `shape::put_symbol` meets its contract: the letter alone, or its field's places. Assumes nothing.
use mathlib.Core.Path.{ap, ◌∙◌}
use Prim.Native.Nat.{◌<◌}
use native.Mathlib.Omega.{arith}
use lib.ListN.{length}
use Rattle.model.specs.Sheet.{sheet_of, limit}
use Rattle.formula.proofs.Small.{limit-small}
use Rattle.model.proofs.Seams.{put_one}
use Rattle.shape.proofs.Laws.{letter-cells, field-cells, length-cells, field_in}
use Rattle.shape.proofs.put_symbol.Goals as goal
use Rattle.shape.proofs.put_symbol.Lts as lts
use Rattle.shape.proofs.put_symbol.Reads as reads
use Rattle.shape.proofs.put_symbol.Tie as tie

pub returns-then-symbol-lt-FIRST_FIELD : goal.returns-then-symbol-lt-FIRST_FIELD
returns-then-symbol-lt-FIRST_FIELD c =
    let a = c.args in
    let e = letter-cells (sheet_of a.sheet.now) a.symbol c.if-symbol-lt-FIRST_FIELD.true in
    rw e (put_one a.buf.now a.at a.symbol (omega (arith, c.requires.2, ap length e)))

-- the field that the symbol names
the_field : (c : lts.After-from tie.the-claims reads.Pre reads.Post) → c.from.result < length (sheet_of c.args.sheet.now).limits
the_field c =
    let at-if1 = c.if-symbol-lt-FIRST_FIELD in
    let inside = field_in (length (sheet_of c.args.sheet.now).letters) (length (sheet_of c.args.sheet.now).limits) c.args.symbol at-if1.false c.requires.1 in
    omega (arith, c.from.ensures, inside)

pub put_places-requires : goal.put_places-requires
put_places-requires c =
    let at-if1 = c.if-symbol-lt-FIRST_FIELD in
    let a = c.args in
    let s = sheet_of a.sheet.now in
    let field = the_field c.before.before in
    let small = limit-small s c.requires.0.1 c.from.result in
    let is = c.limit.ensures ∙ ap (limit s) c.from.ensures in
    (omega (arith, field, c.from.ensures, c.requires.0.1.counts_in.of_fields), omega (arith, small, c.limit.ensures), omega (arith, c.requires.2, length-cells s a.symbol at-if1.false, is))

pub returns : goal.returns
returns c =
    let at-limit = c.limit in
    let at_from = c.from in
    let at-if1 = c.if-symbol-lt-FIRST_FIELD in
    let at-put-places = c.put_places in
    let a = c.args in
    let s = sheet_of a.sheet.now in
    let is = at-limit.ensures ∙ ap (limit s) at_from.ensures in
    rw (field-cells s a.symbol at-if1.false, ← is) at-put-places.ensures
