-- What a substitution comes to says whether it solves the sheet. Assumes nothing.
use mathlib.Core.Path.{◌≡◌, refl, sym, ap, ◌∙◌}
use mathlib.Core.Bool.{true, false}
use mathlib.Core.List.{List}
use Prim.Native.Nat.{ℕ}
use Rattle.model.specs.Sheet.{Sheet}
use Rattle.model.specs.Word.{solves}
use Rattle.model.specs.Mismatch.{judged, is_solution}
use Rattle.model.proofs.Judged.{solves-judged}
use Rattle.judge.specs.declared.Judgement.{Judgement}
use Rattle.judge.specs.declared.Judgement.TheVariants.{Solution, Differs, Breaks}
use Rattle.judge.specs.Answer.{meant}

other : (j : Judgement) → (j ≡ Solution → ⊥) → is_solution (meant j) ≡ false
other Solution f = absurd (f refl)
other (Differs p m) f = refl
other (Breaks r) f = refl

-- a judgement that is a solution, and one that is none
pub solved : (s : Sheet) (g : List (List ℕ)) (j : Judgement) → meant j ≡ judged s g → j ≡ Solution → true ≡ solves s g
solved s g j told is = sym (ap (λ k. is_solution (meant k)) is) ∙ ap is_solution told ∙ sym (solves-judged s g)

pub unsolved : (s : Sheet) (g : List (List ℕ)) (j : Judgement) → meant j ≡ judged s g → (j ≡ Solution → ⊥) → false ≡ solves s g
unsolved s g j told not = sym (other j not) ∙ ap is_solution told ∙ sym (solves-judged s g)
