-- `solution::solve` meets its contract: where letters tell that nothing solves the sheet there is no solution, and else the answers to the whole question
-- are the solutions, of which it gives the first. Assumes nothing.
use Rattle.solution.proofs.Asked.{whole_asks, finds_settles}
use Rattle.solution.proofs.solve.Goals as goal

pub returns-then-some_lopsided : goal.returns-then-some_lopsided
returns-then-some_lopsided c = c.some_lopsided.ensures c.if-some_lopsided.true

pub find-requires : goal.find-requires
find-requires c = (c.requires, whole_asks c.args.sheet.now c.requires c.whole.result c.whole.ensures)

pub returns : goal.returns
returns c = finds_settles c.args.sheet.now c.requires c.whole.result c.whole.ensures c.args.first c.find.result c.find.ensures
