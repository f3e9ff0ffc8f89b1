-- `dimacs::print` meets its contract: a number of few figures by itself, another one its tenth and then the last figure. Assumes nothing.
use Rattle.std.proofs.Common.{arith}
use Rattle.dimacs.proofs.Laws.{more_figures}
use Rattle.model.proofs.Writing.{fits, next, stored}
use Rattle.dimacs.proofs.+print.Goals as goal

-- the figures before the last and the last; the last, when those before it have been printed
pub print-next-requires : goal.print-next-requires
print-next-requires t c =
    let here = fits (more_figures c.args.buf.now c.args.at c.args.n c.requires (omega arith)) in
    (omega arith, omega arith)

pub bounds-buf-next : goal.bounds-buf-next
bounds-buf-next t c =
    let here = fits (next (more_figures c.args.buf.now c.args.at c.args.n c.requires (omega arith)) c.print-next.ensures c.print-next.auto.buf) in
    omega arith

pub returns : goal.returns
returns t c = stored (next (more_figures c.args.buf.now c.args.at c.args.n c.requires (omega arith)) c.print-next.ensures c.print-next.auto.buf)
