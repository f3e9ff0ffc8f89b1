use mathlib.Core.Path.{◌≡◌}
use lib.ListN.{length}
use lib.Seq.{paste}
use Rattle.model.specs.Sheet.{sheet_of}
use Rattle.model.specs.Word.{letter_bytes}
use Rattle.words.proofs.put_letters.Given as goal

abbrev pub invariant-loop-i : goal.invariant-loop-i
invariant-loop-i l = (length l.buf ≡ length l.initial.buf) × (l.buf ≡ paste l.initial.buf l.at (letter_bytes (sheet_of l.sheet) l.word) l.i)
