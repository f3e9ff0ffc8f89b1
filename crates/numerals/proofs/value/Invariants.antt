use Rattle.numerals.proofs.Digits.{Summed}
use Rattle.numerals.proofs.value.Given as goal

abbrev pub invariant-loop-x : goal.invariant-loop-x
invariant-loop-x l = Summed l.digits l.x-index l.sum
