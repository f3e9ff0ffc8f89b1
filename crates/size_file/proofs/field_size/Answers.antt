-- `size_file::field_size` meets its contract. The loop's invariant: the sum is that of the first c places. Assumes nothing.
use mathlib.Core.Path.{◌≡◌, sym, ap, ◌∙◌}
use native.Mathlib.Omega.{arith}
use lib.ListN.{length}
use Rattle.model.specs.Lists.{each, up_to}
use Rattle.model.specs.Sheet.{sheet_of, limit}
use Rattle.rendering.specs.Lines.{place_lines, field_lines}
use Rattle.model.proofs.Keeping.{length_none, length_more}
use Rattle.size_file.proofs.field_size.Goals as goal

pub loop-c-init : goal.loop-c-init
loop-c-init c =
    (sym (length_none (place_lines (sheet_of c.args.sheet.now) c.args.f)), omega arith)

pub loop-c-preserved : goal.loop-c-preserved
loop-c-preserved c =
    let l = c.loop-c in
    let more = length_more (place_lines (sheet_of c.args.sheet.now) c.args.f) l.c in
    (omega (arith, l.invariant.0, c.place_size-sum.ensures.0), omega (arith, l.invariant.1, c.place_size-sum.ensures.1))

pub returns : goal.returns
unfolding field_lines
returns c =
    let l = c.loop-c in
    let s = sheet_of c.args.sheet.now in
    let e : l.c ≡ limit s c.args.f = omega (arith, l.auto.c-end, c.limit-limit.ensures.0) in
    (l.invariant.0 ∙ ap (λ k. length (each (up_to k) (place_lines s c.args.f))) e, omega (arith, l.invariant, c.limit-limit.ensures.1))
