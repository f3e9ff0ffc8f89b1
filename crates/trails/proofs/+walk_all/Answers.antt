-- `trails::walk_all` meets its contract: the first equation is walked from where it stands, and then the others. What falls from call to call: the
-- widths that are left. Assumes nothing.
use mathlib.Core.List.{List}
use mathlib.Core.Path.{◌≡◌, ◌∙◌}
use Prim.Native.Nat.{ℕ, ◌+◌, ◌-◌, ◌≤◌}
use native.Mathlib.Omega.{arith}
use lib.ListN.{get_or, length, drop, length-take}
use Rattle.model.proofs.Seams.{tail_lent}
use Rattle.walk.proofs.Laws.{cells_part, cells_tail, length_tail}
use Rattle.trails.specs.Equations.{cell_total}
use Rattle.trails.proofs.Trails.{total_next, all_end, Stepped, located-first, others-next, all_on, all_stop, handed_on}
use Rattle.trails.proofs.+walk_all.Goals as goal

-- there is a first equation, and there are cells for it and for the others
room : (x w : List ℕ) (m n : ℕ) → 2 ≤ length w → m ≡ get_or w 0 0 → n ≡ get_or w 1 0 → cell_total w ≤ length x → m + n + cell_total (drop 2 w) ≤ length x
room x w m n two left right fits = let all = total_next w two in omega arith

pub returns-then-w-lt2 : goal.returns-then-w-lt2
returns-then-w-lt2 t c = all_end c.args.x.now c.args.w.now c.args.q c.args.t (omega arith)

pub slice_bounds-walk_equation-end : goal.slice_bounds-walk_equation-end
slice_bounds-walk_equation-end t c =
    let fits = room c.args.x.now c.args.w.now c.from-m.result c.from.result (omega arith) c.from-m.ensures c.from.ensures c.requires.1 in
    omega arith

pub slice_bounds-walk_equation-end-2 : goal.slice_bounds-walk_equation-end-2
slice_bounds-walk_equation-end-2 t c =
    let fits = room c.args.x.now c.args.w.now c.from-m.result c.from.result (omega arith) c.from-m.ensures c.from.ensures c.requires.1 in
    omega arith

-- what is asked of it
pub walk_equation-requires : goal.walk_equation-requires
walk_equation-requires t c =
    let x = c.args.x.now in
    let w = c.args.w.now in
    let m = c.from-m.result in
    let n = c.from.result in
    let at = located-first x w c.args.q m n c.args.t.at (omega arith) c.from-m.ensures c.from.ensures c.requires.3 in (
      cells_part x 0 (m - 0) c.requires.0,
      cells_part x m (m + n - m) c.requires.0,
      omega (arith, length-take (m - 0) x),
      omega (arith, length-take (m + n - m) (drop m x)),
      omega arith,
      at.0,
      at.1,
    )

-- and it is walked
pub walk_all-requires : goal.walk_all-requires
walk_all-requires t c =
    let x = c.args.x.now in
    let w = c.args.w.now in
    let m = c.from-m.result in
    let n = c.from.result in
    let widths = length_tail w 2 in
    let cells = length_tail x (m + n) in
    let fits = room x w m n (omega arith) c.from-m.ensures c.from.ensures c.requires.1 in
    let stepped : Stepped x w c.args.q c.args.t m n c.walk_equation.result = record { some = omega arith; left = c.from-m.ensures; right = c.from.ensures; is = c.walk_equation.ensures } in
    (omega arith, (cells_tail x (m + n) c.requires.0, rw (tail_lent w 2) (omega arith), omega arith, others-next stepped c.in_ok-r.r c.in_ok-r.was c.requires.3))

pub returns-in_err-r : goal.returns-in_err-r
returns-in_err-r t c =
    let stepped : Stepped c.args.x.now c.args.w.now c.args.q c.args.t c.from-m.result c.from.result c.walk_equation.result = record { some = omega arith; left = c.from-m.ensures; right = c.from.ensures; is = c.walk_equation.ensures } in
    handed_on _ _ c.from_residual.ensures.1 ∙ all_stop stepped _ c.in_err-r.was

pub returns : goal.returns
returns t c =
    let stepped : Stepped c.args.x.now c.args.w.now c.args.q c.args.t c.from-m.result c.from.result c.walk_equation.result = record { some = omega arith; left = c.from-m.ensures; right = c.from.ensures; is = c.walk_equation.ensures } in
    c.walk_all.ensures ∙ all_on stepped c.in_ok-r.r c.in_ok-r.was
