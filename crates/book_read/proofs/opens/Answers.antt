-- `book_read::opens` meets its contract: each return by the tests that led there. Assumes nothing.
use mathlib.Core.Path.{◌≡◌, sym, ◌∙◌}
use mathlib.Core.Bool.{true, false}
use lib.ListN.{length}
use borrow.Author.Tests.{le-leb, lt-leb}
use Rattle.scan.proofs.Words.{starts-slices}
use Rattle.book.proofs.Opening.{opens-short, opens_unmarked, opens_version}
use Rattle.book_read.proofs.opens.Goals.{then-file-ge-OPENING, else-file-ge-OPENING}
use Rattle.book_read.proofs.opens.Goals as goal

apart : {A : Type 0} → false ≡ true → A
apart e = cc

pub returns-then-starts_with : goal.returns-then-starts_with
returns-then-starts_with c =
    let m = c.args.mark.now in
    let b = c.args.file.now in
    elim c.if-file-ge-OPENING.branch [
      | then-file-ge-OPENING w ↦
          rw c.from_be_bytes.ensures
          (sym (opens_version m b (le-leb 5 (length b) w.if-file-ge-OPENING.true) (sym (starts-slices m b) ∙ sym w.starts_with.ensures.value ∙ sym w.value-is ∙ c.if-starts_with.true)))
      | else-file-ge-OPENING w ↦ apart (sym (lt-leb 5 (length b) w.if-file-ge-OPENING.false) ∙ sym w.value-is ∙ c.if-starts_with.true)
    ]

pub returns-else-starts_with : goal.returns-else-starts_with
returns-else-starts_with c =
    let m = c.args.mark.now in
    let b = c.args.file.now in
    c.if-starts_with.false ∙ sym (elim c.if-file-ge-OPENING.branch [
      | then-file-ge-OPENING w ↦
          opens_unmarked m b (le-leb 5 (length b) w.if-file-ge-OPENING.true) (sym (starts-slices m b) ∙ sym w.starts_with.ensures.value ∙ sym w.value-is ∙ c.if-starts_with.false)
      | else-file-ge-OPENING w ↦ opens-short m b (lt-leb 5 (length b) w.if-file-ge-OPENING.false)
    ])
