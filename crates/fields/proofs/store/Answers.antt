-- `fields::store` meets its contract. The loop's invariant: the bytes of the first f fields stand at the front, what follows is as before. Assumes nothing.
use mathlib.Core.Path.{◌≡◌, refl}
use native.Mathlib.Omega.{arith}
use lib.ListN.{length-append, length-drop}
use Rattle.model.proofs.Seams.{tail_lent}
use Rattle.fields.proofs.Laws.{memory_bytes, length_memory, memory_encodes, store_turn}
use Rattle.fields.proofs.store.Goals as goal

pub loop-f-init : goal.loop-f-init
unfolding memory_bytes
loop-f-init c = (refl, refl)

pub store_field-requires : goal.store_field-requires
store_field-requires c = rw tail_lent (simp length-drop (omega arith))

pub loop-f-preserved : goal.loop-f-preserved
loop-f-preserved c =
    let at-start = c.before.before.before.before.before.before.before.before.before in
    let at-loop = c.loop-f in
    let at-store-field = c.store_field in
    let t = store_turn at-start.args.buf.now at-start.args.g at-loop.buf at-store-field.new.buf at-loop.f at-loop.invariant.1 at-store-field.ensures in
    (rw t (simp (length-append, length-drop, length_memory) (omega (arith, at-start))), t)

pub shape_of-buf : goal.shape_of-buf
shape_of-buf c = c.loop-f.invariant.0

pub returns : goal.returns
returns c =
    let e : c.loop-f.f ≡ c.args.n = omega arith in
    let bytes = memory_encodes c.args.n c.args.g c.requires.0 (omega (arith, c.requires)) in
    rw (e, bytes) at c.loop-f.invariant.1
