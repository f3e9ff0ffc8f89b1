-- `unification::rename_field` meets its contract: after c turns the first c places are renamed. Assumes nothing.
use native.Mathlib.Omega.{arith}
use Rattle.std.proofs.Common.{◌<◌, ◌≤◌, length}
use Rattle.unification.proofs.Loops.{mapped_none, mapped_next, mapped_all}
use Rattle.unification.proofs.rename_field.Goals as goal

pub loop-c-init : goal.loop-c-init
loop-c-init g c s k = mapped_none s 0 c.args.t.letters

pub loop-c-preserved : goal.loop-c-preserved
loop-c-preserved g c s k =
    let more : c.loop-c.c < length c.args.t.letters = omega arith in
    rw (c.loop-c.invariant s k, k _ _ c.by.ensures) (mapped_next s 0 c.args.t.letters c.loop-c.c more)

pub returns : goal.returns
returns g c s k =
    let all : length c.args.t.letters ≤ c.loop-c.c = omega arith in
    rw (c.loop-c.invariant s k, mapped_all s 0 c.args.t.letters c.loop-c.c all)
