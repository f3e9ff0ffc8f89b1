-- `book_ask::clash` meets its contract: the question's bytes are a sheet, and what settles it says whether the templates clash. Assumes nothing.
use mathlib.Core.Path.{◌∙◌}
use lib.ListN.{replicate, take}
use Rattle.model.specs.Sheet.{encode}
use Rattle.model.proofs.Seams.{front_is}
use Rattle.book.specs.Book.{book_of}
use Rattle.book.specs.Pairs.{question}
use Rattle.book_ask.proofs.Laws.{question-admitted, settles_clash}
use Rattle.book_ask.proofs.clash.Goals as goal

pub solve-requires : goal.solve-requires
solve-requires c =
    let a = c.args in
    let k = book_of a.book.now in
    question-admitted k c.requires.0.1 a.i a.j c.requires.1 c.requires.2 (take c.put_question-n.result c.put_question-n.new.buf)
    (front_is (replicate 49 0) (encode (question k a.i a.j)) c.put_question-n.new.buf c.put_question-n.result c.put_question-n.ensures)

pub returns : goal.returns
returns c =
    let a = c.args in
    let k = book_of a.book.now in
    c.is_some.ensures ∙ settles_clash k c.requires.0.1 a.i a.j c.requires.1 c.requires.2 (take c.put_question-n.result c.put_question-n.new.buf)
    (front_is (replicate 49 0) (encode (question k a.i a.j)) c.put_question-n.new.buf c.put_question-n.result c.put_question-n.ensures) c.solve.result c.solve.ensures
