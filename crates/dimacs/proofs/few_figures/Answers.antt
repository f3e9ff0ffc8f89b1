-- `dimacs::few_figures` meets its contract, by the number of figures. Assumes nothing.
use native.Mathlib.Omega.{arith}
use Rattle.dimacs.proofs.Laws.{one_figure, two_figures, three_figures, four_figures}
use Rattle.model.proofs.Writing.{fits, next, ends}
use Rattle.dimacs.proofs.few_figures.Goals as goal

pub figure-requires : goal.figure-requires
figure-requires c =
    let at-if1 = c.if-n-lt10 in
    let room = fits (one_figure c.args.buf.now c.args.at c.args.n c.requires.1 at-if1.true) in
    (at-if1.true, omega arith)

pub returns-then-n-lt10 : goal.returns-then-n-lt10
returns-then-n-lt10 c =
    let at-if1 = c.if-n-lt10 in
    let at-figure = c.figure in
    ends _ _ (one_figure c.args.buf.now c.args.at c.args.n c.requires.1 at-if1.true) at-figure.ensures at-figure.auto.buf

pub figure-a-requires : goal.figure-a-requires
figure-a-requires c =
    let at-if1 = c.if-n-lt10 in
    let at-if2 = c.if-n-lt100 in
    let room = fits (two_figures c.args.buf.now c.args.at c.args.n c.requires.1 at-if1.false at-if2.true) in
    (omega (arith, at-if2.true), omega arith)

pub figure-requires-then-n-lt100 : goal.figure-requires-then-n-lt100
figure-requires-then-n-lt100 c =
    let at-if1 = c.if-n-lt10 in
    let at-if2 = c.if-n-lt100 in
    let at-figure2 = c.figure-a in
    let room = fits (next (two_figures c.args.buf.now c.args.at c.args.n c.requires.1 at-if1.false at-if2.true) at-figure2.ensures at-figure2.auto.buf) in
    (omega (arith, c.requires.0), omega arith)

pub returns-then-n-lt100 : goal.returns-then-n-lt100
returns-then-n-lt100 c =
    let at-if1 = c.if-n-lt10 in
    let at-if2 = c.if-n-lt100 in
    let at-figure2 = c.figure-a in
    let at-figure3 = c.figure-then-n-lt100 in
    ends _ _ (next (two_figures c.args.buf.now c.args.at c.args.n c.requires.1 at-if1.false at-if2.true) at-figure2.ensures at-figure2.auto.buf) at-figure3.ensures at-figure3.auto.buf

pub figure-a-requires-then-n-lt1000 : goal.figure-a-requires-then-n-lt1000
figure-a-requires-then-n-lt1000 c =
    let at-if2 = c.if-n-lt100 in
    let at-if3 = c.if-n-lt1000 in
    let room = fits (three_figures c.args.buf.now c.args.at c.args.n c.requires.1 at-if2.false at-if3.true) in
    (omega (arith, at-if3.true), omega arith)

pub figure-b-requires : goal.figure-b-requires
figure-b-requires c =
    let at-if2 = c.if-n-lt100 in
    let at-if3 = c.if-n-lt1000 in
    let at-figure4 = c.figure-a-then-n-lt1000 in
    let room = fits (next (three_figures c.args.buf.now c.args.at c.args.n c.requires.1 at-if2.false at-if3.true) at-figure4.ensures at-figure4.auto.buf) in
    (omega (arith, c.requires.0), omega arith)

pub figure-requires-then-n-lt1000 : goal.figure-requires-then-n-lt1000
figure-requires-then-n-lt1000 c =
    let at-if2 = c.if-n-lt100 in
    let at-if3 = c.if-n-lt1000 in
    let at-figure4 = c.figure-a-then-n-lt1000 in
    let at-figure5 = c.figure-b in
    let room = fits (next (next (three_figures c.args.buf.now c.args.at c.args.n c.requires.1 at-if2.false at-if3.true) at-figure4.ensures at-figure4.auto.buf) at-figure5.ensures at-figure5.auto.buf) in
    (omega (arith, c.requires.0), omega arith)

pub returns-then-n-lt1000 : goal.returns-then-n-lt1000
returns-then-n-lt1000 c =
    let at-if2 = c.if-n-lt100 in
    let at-if3 = c.if-n-lt1000 in
    let at-figure4 = c.figure-a-then-n-lt1000 in
    let at-figure5 = c.figure-b in
    let at-figure6 = c.figure-then-n-lt1000 in
    ends _ _ (next (next (three_figures c.args.buf.now c.args.at c.args.n c.requires.1 at-if2.false at-if3.true) at-figure4.ensures at-figure4.auto.buf) at-figure5.ensures at-figure5.auto.buf) at-figure6.ensures at-figure6.auto.buf

pub figure-a-requires-2 : goal.figure-a-requires-2
figure-a-requires-2 c =
    let at-if3 = c.if-n-lt1000 in
    let room = fits (four_figures c.args.buf.now c.args.at c.args.n c.requires.1 at-if3.false c.requires.0) in
    (omega (arith, c.requires.0), omega arith)

pub figure-b-requires-2 : goal.figure-b-requires-2
figure-b-requires-2 c =
    let at-if3 = c.if-n-lt1000 in
    let at-figure7 = c.figure-a-2 in
    let room = fits (next (four_figures c.args.buf.now c.args.at c.args.n c.requires.1 at-if3.false c.requires.0) at-figure7.ensures at-figure7.auto.buf) in
    (omega (arith, c.requires.0), omega arith)

pub figure-c-requires : goal.figure-c-requires
figure-c-requires c =
    let at-if3 = c.if-n-lt1000 in
    let at-figure7 = c.figure-a-2 in
    let at-figure8 = c.figure-b-2 in
    let room = fits (next (next (four_figures c.args.buf.now c.args.at c.args.n c.requires.1 at-if3.false c.requires.0) at-figure7.ensures at-figure7.auto.buf) at-figure8.ensures at-figure8.auto.buf) in
    (omega (arith, c.requires.0), omega arith)

pub figure-requires-2 : goal.figure-requires-2
figure-requires-2 c =
    let at-if3 = c.if-n-lt1000 in
    let at-figure7 = c.figure-a-2 in
    let at-figure8 = c.figure-b-2 in
    let at-figure9 = c.figure-c in
    let room = fits (next (next (next (four_figures c.args.buf.now c.args.at c.args.n c.requires.1 at-if3.false c.requires.0) at-figure7.ensures at-figure7.auto.buf) at-figure8.ensures at-figure8.auto.buf) at-figure9.ensures at-figure9.auto.buf) in
    (omega (arith, c.requires.0), omega arith)

pub returns : goal.returns
returns c =
    let at-if3 = c.if-n-lt1000 in
    let at-figure7 = c.figure-a-2 in
    let at-figure8 = c.figure-b-2 in
    let at-figure9 = c.figure-c in
    let at-figure10 = c.figure-2 in
    ends _ _ (next (next (next (four_figures c.args.buf.now c.args.at c.args.n c.requires.1 at-if3.false c.requires.0) at-figure7.ensures at-figure7.auto.buf) at-figure8.ensures at-figure8.auto.buf) at-figure9.ensures at-figure9.auto.buf) at-figure10.ensures at-figure10.auto.buf
