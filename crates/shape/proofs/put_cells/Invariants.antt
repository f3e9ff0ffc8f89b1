use Rattle.model.specs.Sheet.{sheet_of}
use Rattle.model.proofs.Seams.{Written}
use Rattle.shape.proofs.Laws.{taken}
use Rattle.shape.proofs.put_cells.Given as goal

abbrev pub invariant-loop-symbol : goal.invariant-loop-symbol
invariant-loop-symbol l = Written l.initial.buf 0 (taken (sheet_of l.sheet) l.symbols l.symbol-index) l.buf l.at
