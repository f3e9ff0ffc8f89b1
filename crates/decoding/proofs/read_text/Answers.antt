-- `decoding::read_text` meets its contract: the text's refusal, or what its marks spell, handed over. Assumes nothing.
use mathlib.Core.Path.{sym, subst, ◌∙◌}
use lib.ListN.{length}
use Rattle.std.proofs.lemmas.Result.{err_from_is_err_and}
use Rattle.model.specs.Sheet.{sheet_of}
use Rattle.calls.specs.Calls.{HandsOver}
use Rattle.calls.proofs.Operations.{keeps_all}
use Rattle.decoding.specs.Answer.{replied}
use Rattle.decoding.proofs.Laws.{text-refused, text-listed}
use Rattle.decoding.proofs.read_text.Goals as goal

pub hand_over-requires : goal.hand_over-requires
hand_over-requires c =
    ((c.requires.0.0, (c.in_ok-read.ensures {u = tt}).1 ∙ c.requires.0.1), c.requires.3)

pub returns-in_err-read : goal.returns-in_err-read
returns-in_err-read c =
    let told = err_from_is_err_and c.from_residual.result c.from_residual.ensures.1 in
    let a = c.args in
    rw (told.1, told.2) (keeps_all _ a.buf.now (text-refused (sheet_of a.sheet.now) (length a.marks.now) a.text.now c.read.new.marks c.requires.0.1 _ (c.in_err-read.ensures {u = tt})))

pub returns : goal.returns
returns c =
    let a = c.args in
    let same = text-listed (sheet_of a.sheet.now) (length a.marks.now) a.text.now c.read.new.marks c.requires.0.1 (c.in_ok-read.ensures {u = tt}) in
    subst (λ z. HandsOver z a.buf.now (replied c.hand_over.result) c.hand_over.new.buf) (sym same) c.hand_over.ensures
