-- `search::show` is safe: the buffer has room for what is printed. Assumes nothing.
use lib.ListN.{replicate}
use Rattle.model.proofs.Seams.{front_fits, front_length}
use Rattle.calls.specs.Report.{search_printed}
use Rattle.search.proofs.show.Goals as goal

pub slice_bounds-out-end : goal.slice_bounds-out-end
slice_bounds-out-end g c = front_fits (replicate 236 0) (search_printed c.args.sheet.now) c.answer-n.new.out c.answer-n.result c.answer-n.ensures

pub slice_bounds-write_all-end : goal.slice_bounds-write_all-end
slice_bounds-write_all-end g c = front_length (replicate 236 0) (search_printed c.args.sheet.now) c.answer-n.new.out c.answer-n.result c.answer-n.ensures
