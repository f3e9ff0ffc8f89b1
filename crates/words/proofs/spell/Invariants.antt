use mathlib.Core.List.{map}
use lib.ListN.{take}
use Rattle.model.specs.Sheet.{symbol_of}
use Rattle.model.specs.Word.{spell}
use Rattle.model.proofs.Seams.{Written}
use Rattle.fields.specs.Memory.{texts_of}
use Rattle.words.proofs.spell.Given as goal

abbrev pub invariant-loop-symbol : goal.invariant-loop-symbol
invariant-loop-symbol l = Written l.initial.word 0 (spell (texts_of l.g) (take l.symbol-index (map symbol_of l.template))) l.word l.at
