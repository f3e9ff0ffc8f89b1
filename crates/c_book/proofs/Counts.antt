-- A list's answer that the definitions bound has few pairs, and what a call returns of it. Assumes nothing.
use mathlib.Core.Path.{◌≡◌, refl, ◌∙◌}
use mathlib.Core.List.{List, [], ◌∷◌}
use Prim.Native.Nat.{ℕ, ◌≤◌}
use lib.IntN.{ℤ}
use Rattle.calls.specs.Calls.{Answer, finished, Decides}
use Rattle.book_list.specs.Answer.{compared}
use Rattle.book_list.specs.declared.Refusal.{Refusal}
use Rattle.std.specs.Prelude.{Result, Ok, Err}
use Rattle.c_answer.specs.Returned.{returned_number, Decided}
use Rattle.c_answer.proofs.Told.{decision-number}
use Rattle.c_book.specs.Few.{Few}

pub few-pairs : (c : Result ℕ Refusal) → ((n : ℕ) → compared c ≡ finished (n ∷ []) → n ≤ 120) → Few c
few-pairs (Ok n) h = h n refl
few-pairs (Err f) h = tt

pub returned_counts : (a : Answer) (c : Result ℕ Refusal) (r : ℤ) (before after : List ℕ) → Decides a before (compared c) after → r ≡ returned_number (compared c) → Decided a before r after
returned_counts a c r before after call e = (e ∙ decision-number a call.0, call.1)
