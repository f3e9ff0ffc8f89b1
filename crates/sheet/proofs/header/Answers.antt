-- `sheet::header` meets its contract: each return by the tests that led there. Assumes nothing.
use mathlib.Core.Path.{sym, ◌∙◌}
use borrow.Author.Tests.{le-leb, lt-leb, eq-eqb, ne_eqb}
use Rattle.scan.proofs.Words.{starts-slices, range-between}
use Rattle.model.specs.Sheet.{mark, byte}
use Rattle.model.proofs.Opening.{opening-short, opening_unmarked, opening_version, opening-letters, opening-fields, opening-equations, opening-constraints, opening-passes}
use Rattle.sheet.proofs.header.Goals as goal

pub returns-then-sheet-lt-HEADER : goal.returns-then-sheet-lt-HEADER
returns-then-sheet-lt-HEADER c = sym (opening-short _ (lt-leb 9 _ c.if-sheet-lt-HEADER.true))

pub returns-then-not-starts_with : goal.returns-then-not-starts_with
returns-then-not-starts_with c = sym (opening_unmarked _ (le-leb 9 _ c.if-sheet-lt-HEADER.false) (sym (starts-slices mark c.args.sheet.now) ∙ sym c.if-not-starts_with.ensures.value))

pub returns-then-from_be_bytes-ne-VERSION : goal.returns-then-from_be_bytes-ne-VERSION
returns-then-from_be_bytes-ne-VERSION c =
    sym (opening_version _ (le-leb 9 _ c.if-sheet-lt-HEADER.false) (sym (starts-slices mark c.args.sheet.now) ∙ sym c.if-not-starts_with.ensures.value)
    (ne_eqb _ 1 (rw c.from_be_bytes.ensures at c.if-from_be_bytes-ne-VERSION.true)))

pub returns-then-not-contains : goal.returns-then-not-contains
returns-then-not-contains c =
    sym (opening-letters _ (le-leb 9 _ c.if-sheet-lt-HEADER.false) (sym (starts-slices mark c.args.sheet.now) ∙ sym c.if-not-starts_with.ensures.value)
    (eq-eqb _ 1 (rw c.from_be_bytes.ensures at c.if-from_be_bytes-ne-VERSION.false))
    (sym (range-between c.new.result 1 8 (byte c.args.sheet.now 5) c.new.ensures.start c.new.ensures.end c.new.ensures.exhausted) ∙ sym c.if-not-contains.ensures.value))

pub returns-then-not-contains-2 : goal.returns-then-not-contains-2
returns-then-not-contains-2 c =
    sym (opening-fields _ (le-leb 9 _ c.if-sheet-lt-HEADER.false) (sym (starts-slices mark c.args.sheet.now) ∙ sym c.if-not-starts_with.ensures.value)
    (eq-eqb _ 1 (rw c.from_be_bytes.ensures at c.if-from_be_bytes-ne-VERSION.false))
    (sym (range-between c.new.result 1 8 (byte c.args.sheet.now 5) c.new.ensures.start c.new.ensures.end c.new.ensures.exhausted) ∙ sym c.if-not-contains.ensures.value) (sym (range-between c.new-2.result 0 6 (byte c.args.sheet.now 6) c.new-2.ensures.start c.new-2.ensures.end c.new-2.ensures.exhausted) ∙ sym c.if-not-contains-2.ensures.value))

pub returns-then-not-contains-3 : goal.returns-then-not-contains-3
returns-then-not-contains-3 c =
    sym (opening-equations _ (le-leb 9 _ c.if-sheet-lt-HEADER.false) (sym (starts-slices mark c.args.sheet.now) ∙ sym c.if-not-starts_with.ensures.value)
    (eq-eqb _ 1 (rw c.from_be_bytes.ensures at c.if-from_be_bytes-ne-VERSION.false))
    (sym (range-between c.new.result 1 8 (byte c.args.sheet.now 5) c.new.ensures.start c.new.ensures.end c.new.ensures.exhausted) ∙ sym c.if-not-contains.ensures.value) (sym (range-between c.new-2.result 0 6 (byte c.args.sheet.now 6) c.new-2.ensures.start c.new-2.ensures.end c.new-2.ensures.exhausted) ∙ sym c.if-not-contains-2.ensures.value) (sym (range-between c.new-3.result 1 4 (byte c.args.sheet.now 7) c.new-3.ensures.start c.new-3.ensures.end c.new-3.ensures.exhausted) ∙ sym c.if-not-contains-3.ensures.value))

pub returns-then-not-contains-4 : goal.returns-then-not-contains-4
returns-then-not-contains-4 c =
    sym (opening-constraints _ (le-leb 9 _ c.if-sheet-lt-HEADER.false) (sym (starts-slices mark c.args.sheet.now) ∙ sym c.if-not-starts_with.ensures.value)
    (eq-eqb _ 1 (rw c.from_be_bytes.ensures at c.if-from_be_bytes-ne-VERSION.false))
    (sym (range-between c.new.result 1 8 (byte c.args.sheet.now 5) c.new.ensures.start c.new.ensures.end c.new.ensures.exhausted) ∙ sym c.if-not-contains.ensures.value) (sym (range-between c.new-2.result 0 6 (byte c.args.sheet.now 6) c.new-2.ensures.start c.new-2.ensures.end c.new-2.ensures.exhausted) ∙ sym c.if-not-contains-2.ensures.value) (sym (range-between c.new-3.result 1 4 (byte c.args.sheet.now 7) c.new-3.ensures.start c.new-3.ensures.end c.new-3.ensures.exhausted) ∙ sym c.if-not-contains-3.ensures.value) (sym (range-between c.new-4.result 0 4 (byte c.args.sheet.now 8) c.new-4.ensures.start c.new-4.ensures.end c.new-4.ensures.exhausted) ∙ sym c.if-not-contains-4.ensures.value))

pub returns : goal.returns
returns c =
    sym (opening-passes _ (le-leb 9 _ c.if-sheet-lt-HEADER.false) (sym (starts-slices mark c.args.sheet.now) ∙ sym c.if-not-starts_with.ensures.value)
    (eq-eqb _ 1 (rw c.from_be_bytes.ensures at c.if-from_be_bytes-ne-VERSION.false))
    (sym (range-between c.new.result 1 8 (byte c.args.sheet.now 5) c.new.ensures.start c.new.ensures.end c.new.ensures.exhausted) ∙ sym c.if-not-contains.ensures.value) (sym (range-between c.new-2.result 0 6 (byte c.args.sheet.now 6) c.new-2.ensures.start c.new-2.ensures.end c.new-2.ensures.exhausted) ∙ sym c.if-not-contains-2.ensures.value) (sym (range-between c.new-3.result 1 4 (byte c.args.sheet.now 7) c.new-3.ensures.start c.new-3.ensures.end c.new-3.ensures.exhausted) ∙ sym c.if-not-contains-3.ensures.value) (sym (range-between c.new-4.result 0 4 (byte c.args.sheet.now 8) c.new-4.ensures.start c.new-4.ensures.end c.new-4.ensures.exhausted) ∙ sym c.if-not-contains-4.ensures.value))
