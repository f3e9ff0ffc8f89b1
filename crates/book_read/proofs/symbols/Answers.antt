-- `book_read::symbols` meets its contract: the count, the row of symbols, the width. Assumes nothing.
use mathlib.Core.Path.{◌≡◌, sym, ap, ◌∙◌}
use mathlib.Core.Bool.{Bool, true, false}
use mathlib.Core.List.{List, map}
use Prim.Native.Nat.{ℕ, ◌+◌, ◌-◌}
use native.Mathlib.Omega.{arith}
use lib.Dec.{leb}
use lib.ListN.{get_or, take, drop}
use borrow.Author.Tests.{le-leb, lt-leb}
use Rattle.model.specs.Sheet.{template_byte, row, symbol_of, width}
use Rattle.book.proofs.Rests.{symbols-none, symbols_stop, symbols-wide, symbols-left}
use Rattle.scan.proofs.Words.{part-is}
use Rattle.book_read.proofs.Walks.{row_read, row_stops, first-left}
use Rattle.book_read.proofs.symbols.Goals as goal

-- the width of the n symbols from an offset on, which end at another
measured : (limits b : List ℕ) (k n e w : ℕ) (t : Bool) → e ≡ k + n → w ≡ width limits (map symbol_of (take (e - k) (drop k b))) → leb w 24 ≡ t → leb (width limits (map symbol_of (take n (drop k b)))) 24 ≡ t
measured limits b k n e w t at is h =
    ap (λ xs. leb (width limits (map symbol_of xs)) 24) (sym (part-is b k n e at)) ∙ ap (λ m. leb m 24) (sym is) ∙ h

pub returns-in_err-count : goal.returns-in_err-count
returns-in_err-count c =
    let s = c.args in
    let n = c.in_err-count.ensures in
    rw c.from_residual.ensures (n.0, symbols-none s.letters s.fields s.limits.now (drop s.at s.book.now) c.requires.0 n.1)

pub returns-in_err-end : goal.returns-in_err-end
returns-in_err-end c =
    let s = c.args in
    let b = s.book.now in
    let n = c.from-n.result in
    let k = c.in_ok-count.ensures in
    let is : n ≡ get_or (drop s.at b) 0 0 = c.from-n.ensures ∙ k.2 ∙ sym (first-left b s.at) in
    let r = row_stops b (row (template_byte s.letters s.fields) 0 n (drop (s.at + 1) b)) (s.at + 1 + n) c.row.result c.ok.result c.row.ensures.result_value c.row.ensures.landed c.ok.ensures.value c.in_err-end.was in
    rw c.from_residual-in_err-end.ensures (r.0, symbols_stop s.letters s.fields s.limits.now (drop s.at b) c.requires.0 n (drop (s.at + 1) b) is k.0 r.1)

pub returns-then-width_of-gt-WIDEST : goal.returns-then-width_of-gt-WIDEST
returns-then-width_of-gt-WIDEST c =
    let s = c.args in
    let b = s.book.now in
    let n = c.from-n.result in
    let k = c.in_ok-count.ensures in
    let is : n ≡ get_or (drop s.at b) 0 0 = c.from-n.ensures ∙ k.2 ∙ sym (first-left b s.at) in
    let r = row_read b (row (template_byte s.letters s.fields) 0 n (drop (s.at + 1) b)) (s.at + 1 + n) c.row.result c.ok.result c.row.ensures.result_value c.row.ensures.landed c.ok.ensures.value c.in_ok-end.end c.in_ok-end.was in (
      41,
      symbols-wide s.letters s.fields s.limits.now (drop s.at b) c.requires.0 n (drop (s.at + 1) b) is k.0 (drop c.in_ok-end.end b) r.0
          (measured s.limits.now b (s.at + 1) n c.in_ok-end.end c.width_of.result false r.1 c.width_of.ensures (lt-leb c.width_of.result 24 c.if-width_of-gt-WIDEST.true)),
    )

pub returns : goal.returns
returns c =
    let s = c.args in
    let b = s.book.now in
    let n = c.from-n.result in
    let k = c.in_ok-count.ensures in
    let is : n ≡ get_or (drop s.at b) 0 0 = c.from-n.ensures ∙ k.2 ∙ sym (first-left b s.at) in
    let r = row_read b (row (template_byte s.letters s.fields) 0 n (drop (s.at + 1) b)) (s.at + 1 + n) c.row.result c.ok.result c.row.ensures.result_value c.row.ensures.landed c.ok.ensures.value c.in_ok-end.end c.in_ok-end.was in (
      symbols-left s.letters s.fields s.limits.now (drop s.at b) c.requires.0 n (drop (s.at + 1) b) is k.0 (drop c.in_ok-end.end b) r.0
          (measured s.limits.now b (s.at + 1) n c.in_ok-end.end c.width_of.result true r.1 c.width_of.ensures (le-leb c.width_of.result 24 c.if-width_of-gt-WIDEST.false)),
      omega arith,
    )
