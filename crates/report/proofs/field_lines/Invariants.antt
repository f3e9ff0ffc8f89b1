use Rattle.model.specs.Lists.{each, up_to}
use Rattle.model.specs.Sheet.{sheet_of}
use Rattle.calls.specs.Report.{field_line}
use Rattle.model.proofs.Seams.{Written}
use Rattle.fields.specs.Memory.{meaning}
use Rattle.report.proofs.field_lines.Given as goal

abbrev pub invariant-loop-f : goal.invariant-loop-f
invariant-loop-f l = Written l.initial.buf l.at (each (up_to l.f) (field_line (sheet_of l.sheet) (meaning l.sheet l.g))) l.buf l.past
