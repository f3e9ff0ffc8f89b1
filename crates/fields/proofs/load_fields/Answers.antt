-- `fields::load_fields` meets its contract. The loop's invariant: the first f fields are loaded. Assumes nothing.
use mathlib.Core.Path.{◌≡◌, refl}
use native.Mathlib.Numerals.{add-one}
use native.Mathlib.Omega.{arith}
use Rattle.fields.specs.Memory.{loaded}
use Rattle.fields.proofs.load_fields.Goals as goal

pub loop-f-init : goal.loop-f-init
unfolding loaded
loop-f-init c = refl

pub loop-f-preserved : goal.loop-f-preserved
unfolding loaded
loop-f-preserved c = rw (c.loop-f.invariant, c.load_field.ensures, add-one)

pub returns : goal.returns
returns c =
    let e : c.loop-f.f ≡ c.args.n = omega arith in
    rw e at c.loop-f.invariant
