-- `book_read::template` meets its contract: the field count, the limits, the symbols. Assumes nothing.
use mathlib.Core.Path.{◌≡◌, sym, ap, ◌∙◌}
use Prim.Native.Nat.{◌+◌, ◌-◌}
use native.Mathlib.Omega.{arith}
use lib.ListN.{get_or, take, drop}
use Rattle.model.specs.Sheet.{rest, limit_byte, row}
use Rattle.book.specs.Book.{a_template, some_symbols}
use Rattle.book.proofs.Rests.{template-none, template_stops, template-left}
use Rattle.book_read.proofs.Walks.{row_read, row_stops, came_same, first-left}
use Rattle.book_read.proofs.template.Goals as goal

pub returns-in_err-fields : goal.returns-in_err-fields
returns-in_err-fields c =
    let s = c.args in
    let n = c.in_err-fields.ensures in
    rw c.from_residual.ensures (n.0, template-none s.letters (drop s.at s.book.now) n.1)

pub returns-in_err-end : goal.returns-in_err-end
returns-in_err-end c =
    let s = c.args in
    let b = s.book.now in
    let n = c.from.result in
    let k = c.in_ok-fields.ensures in
    let is : n ≡ get_or (drop s.at b) 0 0 = c.from.ensures ∙ k.2 ∙ sym (first-left b s.at) in
    let r = row_stops b (row limit_byte 0 n (drop (s.at + 1) b)) (s.at + 1 + n) c.row.result c.ok.result c.row.ensures.result_value c.row.ensures.landed c.ok.ensures.value c.in_err-end.was in
    rw c.from_residual-in_err-end.ensures (r.0, template_stops s.letters (drop s.at b) n (drop (s.at + 1) b) is k.0 r.1)

pub returns : goal.returns
returns c =
    let s = c.args in
    let b = s.book.now in
    let n = c.from.result in
    let e = c.in_ok-end.end in
    let ys = drop (s.at + 1) b in
    let k = c.in_ok-fields.ensures in
    let is : n ≡ get_or (drop s.at b) 0 0 = c.from.ensures ∙ k.2 ∙ sym (first-left b s.at) in
    let r = row_read b (row limit_byte 0 n ys) (s.at + 1 + n) c.row.result c.ok.result c.row.ensures.result_value c.row.ensures.landed c.ok.ensures.value e c.in_ok-end.was in
    let size : e - (s.at + 1) ≡ n = omega arith in
    came_same b (some_symbols s.letters (take (e - (s.at + 1)) ys) (drop e b)) (a_template s.letters (drop s.at b)) c.symbols.result
    (ap (λ m. rest (some_symbols s.letters (take m ys) (drop e b))) size ∙ sym (template-left s.letters (drop s.at b) n ys is k.0 (drop e b) r.0)) c.symbols.ensures
