-- `lengths::settle` meets its contract: the least length of field k first, where there may be an answer, and then the others. What falls from call to call: the
-- fields that are not settled, and then the lengths that field k can still take. Assumes nothing.
use mathlib.Core.Path.{sym, ◌∙◌}
use native.Mathlib.Omega.{arith}
use lib.Arith.{lt_of_le-ne}
use Rattle.trails.specs.Equations.{equations}
use Rattle.boxes.specs.Vectors.{try_of}
use Rattle.boxes.proofs.Parts.{Parting}
use Rattle.lengths.proofs.Laws.{others_decide}
use Rattle.lengths.proofs.+settle.Goals as goal

pub returns : goal.returns
returns t c =
    let a = c.args in
    let q = a.p.now in
    let p : Parting a.ranges.lo a.ranges.hi a.k = record {
      inside = lt_of_le-ne c.requires.3 c.if-k-eq-FIELDS.false;
      six_lo = omega arith;
      six_hi = omega arith;
      ranges = c.requires.0;
    } in
    others_decide (try_of (equations q.x.now q.w.now) q.rows.now q.count) p c.requires.4 a.t a.t c.settle-r.result c.settle.result (sym c.is_some.ensures ∙ c.if-is_some.false) c.settle-r.ensures c.settle.ensures
