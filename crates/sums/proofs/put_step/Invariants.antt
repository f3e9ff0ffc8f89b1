use Rattle.model.specs.Lists.{each, up_to}
use Rattle.model.specs.Sheet.{sheet_of}
use Rattle.model.proofs.Seams.{Written}
use Rattle.sums.specs.Lines.{sum_lines}
use Rattle.sums.proofs.put_step.Given as goal

abbrev pub invariant-loop-m : goal.invariant-loop-m
invariant-loop-m l = Written l.initial.buf l.at (each (up_to l.m) (sum_lines (sheet_of l.sheet) l.r l.k)) l.buf l.past
