-- `unification::rename` meets its contract: after f turns the first f fields are renamed. Assumes nothing.
use native.Mathlib.Omega.{arith}
use Rattle.std.proofs.Common.{◌<◌, ◌≤◌, length}
use Rattle.unification.specs.Names.{map_field, app, no_field}
use Rattle.unification.proofs.Loops.{mapped_none, mapped_next, mapped_all}
use Rattle.unification.proofs.rename.Goals as goal

pub loop-f-init : goal.loop-f-init
loop-f-init g c s k = mapped_none (map_field s) no_field c.args.g

pub loop-f-preserved : goal.loop-f-preserved
loop-f-preserved g c s k =
    let more : c.loop-f.f < length c.args.g = omega arith in
    rw (c.loop-f.invariant s k, c.rename_field.ensures s k) (mapped_next (map_field s) no_field c.args.g c.loop-f.f more)

pub returns : goal.returns
unfolding app
returns g c s k =
    let all : length c.args.g ≤ c.loop-f.f = omega arith in
    rw (c.loop-f.invariant s k, mapped_all (map_field s) no_field c.args.g c.loop-f.f all)
