-- `sheet::body` meets its contract: the walk's fault, bytes left over, or the counts of the sheet that was got. Assumes nothing.
use mathlib.Core.Path.{sym, ap, ◌∙◌}
use lib.ListN.{drop}
use Rattle.calls.specs.Calls.{refused}
use Rattle.model.specs.Sheet.{walk}
use Rattle.std.proofs.lemmas.Result.{err_from_is_err_and}
use Rattle.parts.specs.Counts.{counts_of}
use Rattle.calls.proofs.Read.{ended-fault, ended-left_over, ended-whole}
use Rattle.sheet.proofs.body.Goals as goal

pub returns-in_err-end : goal.returns-in_err-end
returns-in_err-end c =
    let p = err_from_is_err_and c.from_residual.result c.from_residual.ensures.1 in
    rw p.1 (ap refused p.2 ∙ ended-fault (walk (counts_of c.args.counts) (drop 9 c.args.sheet.now)) (sym c.in_err-end.ensures.result_value))

pub returns-then-end-sheet : goal.returns-then-end-sheet
returns-then-end-sheet c =
    let b = c.args.sheet.now in
    ended-left_over b (walk (counts_of c.args.counts) (drop 9 b)) c.in_ok-end.end (sym c.in_ok-end.ensures.result_value) c.if-end-sheet.true

pub returns : goal.returns
returns c =
    let b = c.args.sheet.now in
    ended-whole (counts_of c.args.counts) (drop 9 b) b c.in_ok-end.end (sym c.in_ok-end.ensures.result_value) c.if-end-sheet.false
