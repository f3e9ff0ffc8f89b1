-- `dimacs::put_literal` meets its contract: nothing, or a minus where the code is odd, the number and a space. Assumes nothing.
use mathlib.Core.List.{[], ◌∷◌}
use Prim.Native.Nat.{◌/◌}
use Rattle.formula.specs.Dimacs.{decimal}
use Rattle.dimacs.specs.Codes.{code_bytes}
use Rattle.dimacs.proofs.Laws.{no_literal, even_literal, odd_literal}
use Rattle.model.proofs.Writing.{Writing, fits, next, ends}
use Rattle.dimacs.proofs.put_literal.Goals as goal
use Rattle.dimacs.proofs.put_literal.Goals.{then-code-eq0-2, else-code-eq0-2}

pub returns-then-code-eq0 : goal.returns-then-code-eq0
returns-then-code-eq0 c = no_literal c.args.buf.now c.args.at c.args.code c.if-code-eq0.true

pub put-next-requires : goal.put-next-requires
put-next-requires c = fits (odd_literal c.args.buf.now c.args.at c.args.code c.if-code-eq0.false c.requires c.if-code-eq0-2.false)

-- the number and the space are still to be written, and then the space
signed : (c : goal.After-print-arg-1)
    → Writing c.args.buf.now c.args.at (code_bytes c.args.code) (decimal (c.args.code / 2)) ((32 ∷ []) ∷ []) c.if-code-eq0-2.buf c.if-code-eq0-2.next
signed c =
    let a = c.args in
    elim c.if-code-eq0-2.branch [
      | then-code-eq0-2 w ↦ rw (w.buf-is, w.next-is) (even_literal a.buf.now a.at a.code c.if-code-eq0.false c.requires w.if-code-eq0-2.true)
      | else-code-eq0-2 w ↦ rw (w.buf-is, w.next-is) (next (odd_literal a.buf.now a.at a.code c.if-code-eq0.false c.requires w.if-code-eq0-2.false) w.put-next.ensures w.put-next.auto.buf)
    ]

printed : (c : goal.After-put-arg-4-1) → Writing c.args.buf.now c.args.at (code_bytes c.args.code) (32 ∷ []) [] c.print-end.new.buf c.print-end.result
printed c = next (signed c.before.before.before.before.before.before) c.print-end.ensures c.print-end.auto.buf

pub print-end-requires : goal.print-end-requires
print-end-requires c = fits (signed c)

pub put-requires : goal.put-requires
put-requires c = fits (printed c)

pub returns : goal.returns
returns c = ends _ _ (printed c.before.before.before.before) c.put.ensures c.put.auto.buf
