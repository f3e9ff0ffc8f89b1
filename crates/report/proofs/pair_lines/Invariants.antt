use Rattle.model.specs.Lists.{each, up_to}
use Rattle.model.specs.Sheet.{sheet_of}
use Rattle.calls.specs.Report.{pair_line}
use Rattle.model.proofs.Seams.{Written}
use Rattle.fields.specs.Memory.{meaning}
use Rattle.report.proofs.pair_lines.Given as goal

abbrev pub invariant-loop-p : goal.invariant-loop-p
invariant-loop-p l = Written l.initial.buf l.at (each (up_to l.p) (pair_line (sheet_of l.sheet) (meaning l.sheet l.g))) l.buf l.past
