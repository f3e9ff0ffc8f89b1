-- `judge::weigh` meets its contract. The loop's invariant: the sum over the first f fields. Assumes nothing.
use mathlib.Core.Path.{◌≡◌, refl, ap, ◌∙◌}
use mathlib.Core.List.{List}
use Prim.Native.Nat.{ℕ}
use native.Mathlib.Omega.{arith}
use lib.ListN.{length}
use mir.Syntax.{w8}
use mir.Val.{to_z, of_z}
use Rattle.model.specs.Sheet.{Counts, counts_of, sheet_of, constraint}
use Rattle.model.specs.Word.{weight}
use Rattle.fields.specs.Memory.{meaning}
use Rattle.judge.proofs.Weights.{product_fits, sum_fits, sum_back}
use Rattle.judge.proofs.weigh.Goals as goal

-- the fields are counted
sized : (b : List ℕ) (n : ℕ) (k : Counts) → n ≡ k.field_count → k ≡ counts_of (sheet_of b) → n ≡ length (sheet_of b).limits
sized b n k e h = e ∙ ap (λ (k : Counts). k.field_count) h

pub four_counts-requires : goal.four_counts-requires
four_counts-requires c = c.requires.0.accepted

pub loop-f-init : goal.loop-f-init
unfolding weight
loop-f-init c = refl

pub offset_bounds-g-f : goal.offset_bounds-g-f
offset_bounds-g-f c = let n = sized c.args.sheet.now _ _ c.from-fields.ensures c.four_counts.ensures in omega arith

pub bounds-g-f : goal.bounds-g-f
bounds-g-f c = let n = sized c.args.sheet.now _ _ c.from-fields.ensures c.four_counts.ensures in omega (arith, c.requires.0.in_range.counts_in.of_fields)

pub coefficient-requires : goal.coefficient-requires
coefficient-requires c =
    let n = sized c.args.sheet.now _ _ c.from-fields.ensures c.four_counts.ensures in
    (c.requires.0.accepted, c.requires.1, omega arith)

pub overflow_mul-sum : goal.overflow_mul-sum
overflow_mul-sum c =
    let a = c.args in
    let n = sized a.sheet.now _ _ c.from-fields.ensures c.four_counts.ensures in
    product_fits a.sheet.now a.g c.requires.0 a.r c.requires.1 c.loop-f.f (omega arith) c.from.result c.from-in-loop-f.result c.loop-f.sum
    (c.from.ensures ∙ ap (λ z. to_z w8 (of_z w8 z)) c.coefficient.ensures) c.from-in-loop-f.ensures

pub overflow_add-sum : goal.overflow_add-sum
overflow_add-sum c =
    let a = c.args in
    let n = sized a.sheet.now _ _ c.from-fields.ensures c.four_counts.ensures in
    sum_fits a.sheet.now a.g c.requires.0 a.r c.requires.1 c.loop-f.f (omega arith) c.from.result c.from-in-loop-f.result _
    (c.from.ensures ∙ ap (λ z. to_z w8 (of_z w8 z)) c.coefficient.ensures) c.from-in-loop-f.ensures c.loop-f.invariant

pub loop-f-preserved : goal.loop-f-preserved
loop-f-preserved c =
    let a = c.args in
    let n = sized a.sheet.now _ _ c.from-fields.ensures c.four_counts.ensures in
    sum_back a.sheet.now a.g c.requires.0 a.r c.requires.1 c.loop-f.f (omega arith) c.from.result c.from-in-loop-f.result _
    (c.from.ensures ∙ ap (λ z. to_z w8 (of_z w8 z)) c.coefficient.ensures) c.from-in-loop-f.ensures c.loop-f.invariant

pub returns : goal.returns
returns c =
    let a = c.args in
    let n = sized a.sheet.now _ _ c.from-fields.ensures c.four_counts.ensures in
    let z = weight (constraint (sheet_of a.sheet.now) a.r) (meaning a.sheet.now a.g) in
    let e : c.loop-f.f ≡ length (sheet_of a.sheet.now).limits = omega arith in
    c.loop-f.invariant ∙ ap z e
