-- `shape::put_cells` meets its contract. The loop's invariant: the cells of the symbols so far have been written. Assumes nothing.
use mathlib.Core.Path.{sym, subst}
use mathlib.Core.List.{map}
use native.Mathlib.Omega.{arith}
use lib.ListN.{length, get_or, length-map, get_or-map}
use Rattle.model.specs.Sheet.{symbol_of, sheet_of}
use Rattle.model.specs.Range.{SymbolIn}
use Rattle.model.specs.Cells.{symbol_cells}
use Rattle.model.proofs.Lists.{at}
use Rattle.model.proofs.Seams.{Written, nothing, more}
use Rattle.shape.specs.Bytes.{cell_byte}
use Rattle.shape.proofs.Laws.{taken_none, taken_more, taken-room}
use Rattle.shape.proofs.put_cells.Goals as goal

pub loop-symbol-init : goal.loop-symbol-init
loop-symbol-init c =
    let a = c.args in
    subst (λ p. Written a.buf.now 0 p a.buf.now 0) (sym (taken_none (sheet_of a.sheet.now) a.symbols.now)) (nothing a.buf.now 0)

pub put_symbol-at-requires : goal.put_symbol-at-requires
put_symbol-at-requires c =
    let at-loop = c.loop-symbol in
    let at-loop-test = c.loop-symbol-test in
    let a = c.args in
    let l = at-loop in
    let s = sheet_of a.sheet.now in
    let P = SymbolIn (length s.letters) (length s.limits) in
    let one = at P (map symbol_of a.symbols.now) l.symbol-index (symbol_of 0) c.requires.1 (omega (arith, length-map a.symbols.now symbol_of, at-loop-test.true)) in
    (c.requires.0, subst P (get_or-map symbol_of a.symbols.now l.symbol-index 0) one, omega (arith, l.invariant, c.requires.2, taken-room s a.symbols.now l.symbol-index at-loop-test.true))

pub loop-symbol-preserved : goal.loop-symbol-preserved
loop-symbol-preserved c =
    let at-loop = c.loop-symbol in
    let at-put-symbol = c.put_symbol-at in
    let at-loop-test = c.loop-symbol-test in
    let a = c.args in
    let l = at-loop in
    let s = sheet_of a.sheet.now in
    let put = at-put-symbol in
    let room = taken-room s a.symbols.now l.symbol-index at-loop-test.true in
    let us = symbol_cells s (symbol_of (get_or a.symbols.now l.symbol-index 0)) in
    let next = more (map cell_byte us) put.new.buf put.result l.invariant put.ensures put.auto.buf (omega (arith, c.requires.2, length-map us cell_byte)) in
    subst (λ p. Written a.buf.now 0 p put.new.buf put.result) (sym (taken_more s a.symbols.now l.symbol-index at-loop-test.true)) next
