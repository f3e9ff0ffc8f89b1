-- `vectors_check::show_report` meets its contract: what is printed is what was written. Assumes nothing.
use Rattle.std.proofs.Common.{ℕ, List, arith}
use lib.ListN.{replicate}
use Rattle.model.specs.Sheet.{sheet_of}
use Rattle.model.specs.Filling.{filling, substitution_in}
use Rattle.calls.specs.Report.{report}
use Rattle.model.proofs.Seams.{front_fits, front_length}
use Rattle.vectors_check.proofs.show_report.Goals as goal

pub write-n-requires : goal.write-n-requires
write-n-requires g c = (c.requires, omega arith)

-- the report
abbrev printed : List ℕ → List ℕ → List ℕ
printed sheet bytes = report (sheet_of sheet) (substitution_in (filling (sheet_of sheet) bytes))

pub slice_bounds-buf-end : goal.slice_bounds-buf-end
slice_bounds-buf-end g c = front_fits (replicate 236 0) (printed c.args.sheet.now c.args.filling.now) c.write-n.new.buf c.write-n.result c.write-n.ensures

pub slice_bounds-write_all-end-2 : goal.slice_bounds-write_all-end-2
slice_bounds-write_all-end-2 g c = front_length (replicate 236 0) (printed c.args.sheet.now c.args.filling.now) c.write-n.new.buf c.write-n.result c.write-n.ensures
