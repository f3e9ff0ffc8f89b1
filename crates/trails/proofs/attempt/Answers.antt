-- `trails::attempt` meets its contract: the equations are walked from the start, and names that are left are settled. Assumes nothing.
use native.Mathlib.Omega.{arith}
use Rattle.trails.specs.Equations.{equations}
use Rattle.trails.proofs.Attempts.{starts_located, attempt_won, attempt_lost}
use Rattle.trails.proofs.attempt.Goals as goal

pub walk_all-requires : goal.walk_all-requires
walk_all-requires c =
    (c.requires.0, c.requires.1, omega arith, starts_located (equations c.args.x.now c.args.w.now) c.args.n c.open_trail.ensures c.renew_trail.ensures)

pub returns-in-Ok : goal.returns-in-Ok
returns-in-Ok c =
    let a = c.args in
    rw c.settle.ensures (attempt_won (equations a.x.now a.w.now) a.n c.open_trail.ensures c.renew_trail.ensures c.walk_all.result c.walk_all.ensures c.in-Ok.t c.in-Ok.is)

pub returns-in-Err : goal.returns-in-Err
returns-in-Err c =
    let a = c.args in
    attempt_lost (equations a.x.now a.w.now) a.n c.open_trail.ensures c.renew_trail.ensures c.walk_all.result c.walk_all.ensures c.in-Err.t c.in-Err.is
