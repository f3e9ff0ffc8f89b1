use Rattle.model.specs.Lists.{each, up_to}
use Rattle.model.specs.Sheet.{sheet_of}
use Rattle.model.proofs.Seams.{Written}
use Rattle.rendering.specs.Lines.{place_lines}
use Rattle.rendering.proofs.put_field.Given as goal

abbrev pub invariant-loop-c : goal.invariant-loop-c
invariant-loop-c l = Written l.initial.buf l.at (each (up_to l.c) (place_lines (sheet_of l.sheet) l.f)) l.buf l.past
