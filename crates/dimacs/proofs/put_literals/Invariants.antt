use lib.ListN.{take}
use Rattle.model.specs.Lists.{each}
use Rattle.model.proofs.Seams.{Written}
use Rattle.dimacs.specs.Codes.{code_bytes}
use Rattle.dimacs.proofs.put_literals.Given as goal

abbrev pub invariant-loop-code : goal.invariant-loop-code
invariant-loop-code l = Written l.initial.buf l.at (each (take l.code-index l.codes) code_bytes) l.buf l.past
