-- `unification::value` meets its contract: a cell that is no letter is 8 + 8 × f + c, of which division by 8 gives f and c. Assumes nothing.
use borrow.Author.Tests.{lt-ltb, le-ltb}
use Rattle.unification.specs.Names.{value_of}
use Rattle.unification.proofs.value.Goals as goal

pub returns-then-u-lt-FIRST_PLACE : goal.returns-then-u-lt-FIRST_PLACE
unfolding value_of
returns-then-u-lt-FIRST_PLACE c = simp (lt-ltb _ _ c.if-u-lt-FIRST_PLACE.true)

pub returns : goal.returns
unfolding value_of
returns c = simp (le-ltb _ _ c.if-u-lt-FIRST_PLACE.false, c.from.ensures, c.from-2.ensures)
