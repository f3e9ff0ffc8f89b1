-- `shape::put_places` meets its contract. The loop's invariant: the first c places have been written. Assumes nothing.
use mathlib.Core.Path.{◌≡◌, subst}
use mathlib.Core.List.{[], ◌∷◌, ◌++◌, map}
use Prim.Native.Nat.{◌+◌, ◌*◌}
use native.Mathlib.Omega.{arith}
use lib.ListN.{set, length-set}
use Rattle.model.specs.Lists.{up_to, from}
use Rattle.model.specs.Cells.{place}
use Rattle.model.proofs.Seams.{Written, nothing, more, put_one}
use Rattle.shape.specs.Bytes.{cell_byte}
use Rattle.shape.proofs.Laws.{places-more, places-length}
use Rattle.shape.proofs.put_places.Goals as goal

pub loop-c-init : goal.loop-c-init
unfolding from
loop-c-init c = subst (λ k. Written c.args.buf.now c.args.at [] c.args.buf.now k) (omega arith) (nothing c.args.buf.now c.args.at)

pub loop-c-preserved : goal.loop-c-preserved
loop-c-preserved c =
    let at-loop = c.loop-c in
    let a = c.args in
    let l = at-loop in
    let e : a.at + c.from.result ≡ a.at + l.c = omega (arith, c.from.ensures) in
    let n = places-length a.f l.c in
    let put = put_one l.buf (a.at + l.c) (8 + 8 * a.f + l.c) (omega (arith, c.requires, l.invariant)) in
    let next = more ((8 + 8 * a.f + l.c) ∷ []) _ (a.at + l.c + 1) l.invariant put (length-set l.buf (a.at + l.c) (8 + 8 * a.f + l.c)) (omega (arith, c.requires)) in
    rw (e, places-more a.f l.c) (subst (λ k. Written a.buf.now a.at (map cell_byte (map (place a.f) (up_to l.c)) ++ ((8 + 8 * a.f + l.c) ∷ [])) (set l.buf (a.at + l.c) (8 + 8 * a.f + l.c)) k) (omega arith) next)
