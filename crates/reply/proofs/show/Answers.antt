-- `reply::show` is safe: the buffer has room for what is printed. Assumes nothing.
use Rattle.std.proofs.Common.{ℕ, List}
use lib.ListN.{replicate}
use Rattle.model.specs.Sheet.{sheet_of}
use Rattle.calls.specs.Calls.{replying}
use Rattle.calls.specs.Report.{printed}
use Rattle.model.proofs.Seams.{front_fits, front_length}
use Rattle.reply.proofs.show.Goals as goal

-- what is printed
abbrev text : List ℕ → List ℕ → List ℕ
text sheet reply = printed (sheet_of sheet) (replying sheet reply 54)

pub slice_bounds-out-end : goal.slice_bounds-out-end
slice_bounds-out-end g c = front_fits (replicate 236 0) (text c.args.sheet.now c.args.text.now) c.answer-n.new.out c.answer-n.result c.answer-n.ensures

pub slice_bounds-write_all-end : goal.slice_bounds-write_all-end
slice_bounds-write_all-end g c = front_length (replicate 236 0) (text c.args.sheet.now c.args.text.now) c.answer-n.new.out c.answer-n.result c.answer-n.ensures
