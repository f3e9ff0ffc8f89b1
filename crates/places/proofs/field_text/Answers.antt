-- `places::field_text` meets its contract. The loop's invariant: the places passed hold letters, and these have been stored. Assumes nothing.
use mathlib.Core.Path.{◌≡◌, refl, sym, ap, ◌∙◌}
use mathlib.Core.List.{map}
use Prim.Native.Nat.{ℕ}
use native.Mathlib.Omega.{arith}
use borrow.Author.Count.{below_more}
use Rattle.model.specs.Lists.{from, up_to}
use Rattle.model.specs.Sheet.{sheet_of}
use Rattle.formula.specs.Assignment.{truth, held}
use Rattle.formula.proofs.Small.{letters-few}
use Rattle.model.proofs.Keeping.{length-map-from}
use Rattle.places.proofs.Laws.{text-whole, text_stop, field-holds, store_more}
use Rattle.places.proofs.field_text.Goals as goal

pub letters-blank-requires : goal.letters-blank-requires
letters-blank-requires c = c.requires.0.0

pub limit-limit-requires : goal.limit-limit-requires
limit-limit-requires c =
    (c.requires.0.0, c.requires.1)

pub loop-c-init : goal.loop-c-init
unfolding from
loop-c-init c = (refl, λ k h. absurd (omega arith))

pub values-here-requires : goal.values-here-requires
values-here-requires c =
    (c.requires.0, c.requires.1, omega (arith, c.limit-limit.ensures.0))

pub overflow_cast-result : goal.overflow_cast-result
overflow_cast-result c = omega (arith, c.limit-limit.ensures.1)

pub returns-then-here-blank : goal.returns-then-here-blank
returns-then-here-blank c =
    let l = c.loop-c in
    let a = c.args in
    let h : ℕ → ℕ = held (sheet_of a.sheet.now) (truth a.marks.now) a.f in
    let letters = c.letters-blank.ensures in
    field-holds (map h (up_to l.c)) _ l.c l.letters l.invariant.0 (length-map-from h 0 l.c) (omega (arith, c.limit-limit.ensures.1))
    (text_stop _ h _ l.c (omega (arith, c.limit-limit.ensures.0)) (λ k i e. l.invariant.1 k i (e ∙ sym letters))
    (sym c.values-here.ensures.1 ∙ c.if-here-blank.true ∙ letters))

pub overflow_cast-letters : goal.overflow_cast-letters
overflow_cast-letters c =
    omega (arith, c.values-here.ensures.2, letters-few (sheet_of c.args.sheet.now) c.requires.0.0.1)

pub bounds-letters-c : goal.bounds-letters-c
bounds-letters-c c = omega (arith, c.limit-limit.ensures.1)

pub loop-c-preserved : goal.loop-c-preserved
loop-c-preserved c =
    let l = c.loop-c in
    let a = c.args in
    let h : ℕ → ℕ = held (sheet_of a.sheet.now) (truth a.marks.now) a.f in
    let here = c.values-here.ensures.1 in (
      store_more h l.c c.values-here.result.least l.letters l.invariant.0 (omega (arith, c.limit-limit.ensures.1)) here,
      below_more _ l.c l.invariant.1 (λ e. c.if-here-blank.false (here ∙ e)),
    )

pub overflow_cast-result-2 : goal.overflow_cast-result-2
overflow_cast-result-2 c = omega (arith, c.limit-limit.ensures.1)

pub returns : goal.returns
returns c =
    let l = c.loop-c in
    let a = c.args in
    let h : ℕ → ℕ = held (sheet_of a.sheet.now) (truth a.marks.now) a.f in
    let letters = c.letters-blank.ensures in
    let n : l.c ≡ c.limit-limit.result = omega arith in
    rw n at (field-holds (map h (up_to l.c)) _ l.c l.letters l.invariant.0 (length-map-from h 0 l.c) (omega (arith, c.limit-limit.ensures.1))
    (text-whole _ h _ (λ k i e. l.invariant.1 k (omega (arith, c.limit-limit.ensures.0)) (e ∙ sym letters))
    ∙ ap (λ m. map h (up_to m)) (sym c.limit-limit.ensures.0 ∙ sym n)))
