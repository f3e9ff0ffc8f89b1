-- `size_location::row_size` meets its contract. The loop's invariant: the sum is that of the first j locations. Assumes nothing.
use mathlib.Core.Path.{◌≡◌, ap, sym, ◌∙◌}
use mathlib.Core.List.{List}
use Prim.Native.Nat.{ℕ, ◌+◌, ◌*◌}
use native.Mathlib.Omega.{arith}
use lib.ListN.{length, get_or}
use Rattle.model.specs.Lists.{each, up_to}
use Rattle.model.proofs.Keeping.{length_none, length_more}
use Rattle.shape.specs.Bytes.{side_of}
use Rattle.crossings.specs.Codes.{cross_lines}
use Rattle.crossings.specs.declared.Cell.{Cell}
use Rattle.locations.specs.Codes.{row_of}
use Rattle.locations.specs.declared.Row.{Row}
use Rattle.size_location.proofs.row_size.Goals as goal

-- the lines of each location
abbrev lines : Row → ℕ → Cell → ℕ → List ℕ
lines row here left j = cross_lines row.l (2 * row.n) (here + 2 * j) (side_of left.byte) left.code (side_of (get_or row.bytes j 0)) (get_or row.codes j 0)

pub loop-j-init : goal.loop-j-init
loop-j-init c = (sym (length_none (lines c.args.row c.args.here c.args.left)), omega arith)

pub overflow_add-sum : goal.overflow_add-sum
overflow_add-sum c = omega (arith, c.requires.0.row, c.loop-j.invariant, c.cross_size-sum.ensures.1)

pub loop-j-preserved : goal.loop-j-preserved
loop-j-preserved c =
    let l = c.loop-j in
    let more = length_more (lines c.args.row c.args.here c.args.left) l.j in
    (omega (arith, l.invariant.0, c.cross_size-sum.ensures.0), omega (arith, l.invariant.1, c.cross_size-sum.ensures.1))

pub returns : goal.returns
unfolding row_of
returns c =
    let l = c.loop-j in
    let e : l.j ≡ c.args.row.n = omega arith in
    (l.invariant.0 ∙ ap (λ k. length (each (up_to k) (lines c.args.row c.args.here c.args.left))) e, omega (arith, l.invariant, c.requires.0.row))
