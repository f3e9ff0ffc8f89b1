-- `dimacs::figure` meets its contract: a single store. Assumes nothing.
use Prim.Native.Nat.{◌+◌}
use native.Mathlib.Omega.{arith}
use Rattle.model.proofs.Seams.{put_one}
use Rattle.dimacs.proofs.figure.Goals as goal

pub overflow_cast-buf : goal.overflow_cast-buf
overflow_cast-buf c =
    omega (arith, c.requires.0)

pub overflow_add-buf : goal.overflow_add-buf
overflow_add-buf c =
    omega (arith, c.requires.0)

pub bounds-buf-at : goal.bounds-buf-at
bounds-buf-at c =
    c.requires.1

pub overflow_add-result : goal.overflow_add-result
overflow_add-result c =
    omega (arith, c.requires.1)

pub returns : goal.returns
returns c =
    put_one c.args.buf.now c.args.at (48 + c.args.n) c.requires.1
