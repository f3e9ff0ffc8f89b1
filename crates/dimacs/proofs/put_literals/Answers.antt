-- `dimacs::put_literals` meets its contract. The loop's invariant: the first literals have been written. Assumes nothing.
use mathlib.Core.Path.{◌≡◌, sym, subst}
use native.Mathlib.Omega.{arith}
use lib.ListN.{get_or, take}
use lib.Seq.{take_all}
use Rattle.model.specs.Lists.{each}
use Rattle.model.proofs.Lists.{each_next}
use Rattle.model.proofs.Seams.{Written, nothing, more}
use Rattle.dimacs.specs.Codes.{code_bytes}
use Rattle.dimacs.proofs.Laws.{codes_room}
use Rattle.dimacs.proofs.put_literals.Goals as goal

pub loop-code-init : goal.loop-code-init
unfolding each
loop-code-init c = nothing c.args.buf.now c.args.at

pub put_literal-past-requires : goal.put_literal-past-requires
put_literal-past-requires c =
    let room = codes_room c.args.codes.now c.loop-code.code-index c.loop-code-test.true in
    omega (arith, c.loop-code.invariant, c.requires)

pub loop-code-preserved : goal.loop-code-preserved
loop-code-preserved c =
    let l = c.loop-code in
    let codes = c.args.codes.now in
    let put = c.put_literal-past in
    let test = c.loop-code-test.true in
    let room = codes_room codes l.code-index test in
    let next = more (code_bytes (get_or codes l.code-index 0)) put.new.buf put.result l.invariant put.ensures put.auto.buf (omega (arith, c.requires)) in
    subst (λ p. Written c.args.buf.now c.args.at p put.new.buf put.result) (sym (each_next code_bytes codes l.code-index 0 test)) next

pub returns : goal.returns
returns c =
    let l = c.loop-code in
    let e : take l.code-index c.args.codes.now ≡ c.args.codes.now = take_all l.code-index c.args.codes.now (omega arith) in
    let w = subst (λ xs. Written c.args.buf.now c.args.at (each xs code_bytes) l.buf l.past) e l.invariant in
    (w.past, w.holds)
