-- `tally::mark` meets its contract: by what the mark was. Assumes nothing.
use borrow.Author.Tests.{eq-eqb, ne_eqb}
use Rattle.tally.proofs.mark.Goals as goal

pub returns-then-was-eq-UNLISTED : goal.returns-then-was-eq-UNLISTED
returns-then-was-eq-UNLISTED c = rw (c.if-plus.false, eq-eqb _ _ c.if-was-eq-UNLISTED.true)

pub returns-else-was-eq-UNLISTED : goal.returns-else-was-eq-UNLISTED
returns-else-was-eq-UNLISTED c = rw (c.if-plus.false, ne_eqb _ _ c.if-was-eq-UNLISTED.false)
