-- `tally::read_line` meets its contract: by the line's first byte and its first space. Assumes nothing.
use mathlib.Core.Path.{◌≡◌, refl, sym, ap, ◌∙◌}
use mathlib.Core.Bool.{Bool}
use mathlib.Core.List.{List}
use Prim.Native.Nat.{ℕ}
use mathlib.Core.Logic.{⊎_elim}
use native.Mathlib.Omega.{arith}
use lib.Dec.{eqb}
use lib.Pointwise.{pointwise}
use borrow.Author.Tests.{eqb-true, eqb-false}
use Rattle.model.specs.Lists.{same}
use Rattle.scan.proofs.Words.{same-slices}
use Rattle.tally.proofs.Texts.{line_empty, line_status, line-comment, line_other, line-values}
use Rattle.tally.proofs.read_line.Goals as goal

-- what the comparison of two slices answers, in the model's word
compared : (l s t : List ℕ) (b : Bool) → b ≡ pointwise eqb l s → s ≡ t → same l t ≡ b
compared l s t b e f = sym (ap (same l) f) ∙ sym (same-slices l s) ∙ sym e

pub returns-then-eq : goal.returns-then-eq
returns-then-eq c =
    let a = c.args in
    let status = compared _ _ _ _ c.eq.ensures c.as_slice.ensures ∙ c.if-eq.true in
    line_status a.marks.now a.tally a.line.now status _ refl

pub returns-then-is_empty : goal.returns-then-is_empty
returns-then-is_empty c = line_empty c.args.line.now (eqb-true _ 0 (sym c.if-is_empty.ensures))

pub returns-then-line-eq99 : goal.returns-then-line-eq99
returns-then-line-eq99 c =
    let a = c.args in
    let status = compared _ _ _ _ c.eq.ensures c.as_slice.ensures ∙ c.if-eq.false in
    line-comment a.marks.now a.tally a.line.now status (omega (arith, eqb-false _ 0 (sym c.if-is_empty.ensures))) c.if-line-eq99.true

pub returns-then-line-ne118 : goal.returns-then-line-ne118
returns-then-line-ne118 c =
    let line = c.args.line.now in
    let at-find = c.find-first in
    let status = compared _ _ _ _ c.eq.ensures c.as_slice.ensures ∙ c.if-eq.false in
    line_other line status c.if-line-eq99.false at-find.result at-find.ensures.0
    (⊎_elim (λ n v one. n v) (λ w v one. w.1 one) c.then-line-ne118.either)

pub returns : goal.returns
returns c =
    let at-values = c.read_values in
    let at-find = c.find-first in
    let a = c.args in
    let status = compared _ _ _ _ c.eq.ensures c.as_slice.ensures ∙ c.if-eq.false in
    line-values a.marks.now a.tally a.line.now status (omega (arith, eqb-false _ 0 (sym c.if-is_empty.ensures))) c.if-line-ne118.false at-find.result at-find.ensures.0 c.if-first-ne1.false
    _ refl at-values.result at-values.new.marks at-values.ensures
