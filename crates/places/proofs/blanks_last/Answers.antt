-- `places::blanks_last` meets its contract. The loop's invariant: what is asked of the places from c on, before a blank or after one, decides.
use mathlib.Core.Path.{sym, ap, ap₂, ◌∙◌}
use mathlib.Core.List.{map}
use Prim.Native.Nat.{ℕ, ◌+◌}
use native.Mathlib.Omega.{arith}
use Rattle.model.specs.Lists.{up_to}
use Rattle.model.specs.Sheet.{sheet_of}
use Rattle.formula.specs.Assignment.{truth, held}
use Rattle.calls.specs.Reply.{blanks_last}
use Rattle.places.proofs.Laws.{ahead, ahead_all, ahead_over, ahead_blank, ahead_letter, ahead_fails}
use Rattle.places.proofs.blanks_last.Goals as goal
use Rattle.places.proofs.blanks_last.Goals.{then-here-blank, else-here-blank+else-ended}

pub letters-blank-requires : goal.letters-blank-requires
letters-blank-requires c = c.requires.0.0

pub limit-limit-requires : goal.limit-limit-requires
limit-limit-requires c =
    (c.requires.0.0, c.requires.1)

pub loop-c-init : goal.loop-c-init
loop-c-init c =
    let a = c.args in
    sym (ahead_all c.letters-blank.result (held (sheet_of a.sheet.now) (truth a.marks.now) a.f) c.limit-limit.result)

pub values-here-requires : goal.values-here-requires
values-here-requires c =
    (c.requires.0, c.requires.1, omega (arith, c.limit-limit.ensures.0))

pub returns-then-ended : goal.returns-then-ended
returns-then-ended c =
    let l = c.loop-c in
    let a = c.args in
    let h : ℕ → ℕ = held (sheet_of a.sheet.now) (truth a.marks.now) a.f in
    let here = c.values-here.ensures.1 in
    let asks = ap₂ (λ b n. blanks_last b (map h (up_to n))) (sym c.letters-blank.ensures) (sym c.limit-limit.ensures.0) in
    let b = c.letters-blank.result in
    let n = c.limit-limit.result in
    sym (asks ∙ l.invariant ∙ ap (λ e. ahead b h n e l.c) c.if-ended.true
    ∙ ahead_fails b h n l.c c.loop-c-test.true (λ e. c.if-here-blank.false (here ∙ e)))

pub loop-c-preserved : goal.loop-c-preserved
loop-c-preserved c =
    let l = c.loop-c in
    let a = c.args in
    let h : ℕ → ℕ = held (sheet_of a.sheet.now) (truth a.marks.now) a.f in
    let here = c.values-here.ensures.1 in
    let inside = c.loop-c-test.true in
    let b = c.letters-blank.result in
    let n = c.limit-limit.result in
    elim c.if-here-blank.branch [
      | then-here-blank w ↦
          l.invariant
          ∙ ahead_blank b h n l.c inside l.ended (sym here ∙ w.if-here-blank.true)
          ∙ ap (λ e. ahead b h n e (l.c + 1)) (sym w.ended-is)
      | else-here-blank+else-ended w ↦
          l.invariant
          ∙ ap (λ e. ahead b h n e l.c) w.if-ended.false
          ∙ ahead_letter b h n l.c inside (λ e. w.if-here-blank.false (here ∙ e))
          ∙ ap (λ e. ahead b h n e (l.c + 1)) (sym (w.ended-is ∙ w.if-ended.false))
    ]

pub returns : goal.returns
returns c =
    let l = c.loop-c in
    let a = c.args in
    let h : ℕ → ℕ = held (sheet_of a.sheet.now) (truth a.marks.now) a.f in
    let asks = ap₂ (λ b n. blanks_last b (map h (up_to n))) (sym c.letters-blank.ensures) (sym c.limit-limit.ensures.0) in
    sym (asks ∙ l.invariant ∙ ahead_over c.letters-blank.result h c.limit-limit.result l.ended l.c c.loop-c-test.false)
