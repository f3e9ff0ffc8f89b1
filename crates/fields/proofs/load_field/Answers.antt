-- `fields::load_field` meets its contract: the letters are the eight bytes after the length. Assumes nothing.
use mathlib.Core.Path.{◌≡◌}
use Prim.Native.Nat.{◌+◌, ◌-◌}
use native.Mathlib.Omega.{arith}
use lib.ListN.{drop, length-drop}
use Rattle.fields.specs.Memory.{field_at}
use Rattle.fields.proofs.Laws.{firsts-take}
use Rattle.fields.proofs.load_field.Goals as goal

pub returns : goal.returns
unfolding field_at
returns c =
    let b = c.args.bytes.now in
    let at = c.args.at + 1 in
    let n : c.args.at + 9 - at ≡ 8 = omega arith in
    rw (c.copy_from_slice.ensures.after, n, firsts-take 8 (drop at b) (omega (arith, length-drop at b)))
