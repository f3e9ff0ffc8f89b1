-- `book_question::numbered_after` meets its contract: a letter stays, a field moves. Assumes nothing.
use mathlib.Core.Path.{sym}
use Rattle.book_question.proofs.Laws.{numbered-letter, numbered-field}
use Rattle.book_question.proofs.numbered_after.Goals as goal

pub returns-then-x-lt-FIRST_FIELD : goal.returns-then-x-lt-FIRST_FIELD
returns-then-x-lt-FIRST_FIELD c = let a = c.args in sym (numbered-letter a.n a.x c.if-x-lt-FIRST_FIELD.true)

pub returns-else-x-lt-FIRST_FIELD : goal.returns-else-x-lt-FIRST_FIELD
returns-else-x-lt-FIRST_FIELD c = let a = c.args in sym (numbered-field a.n a.x c.if-x-lt-FIRST_FIELD.false)
