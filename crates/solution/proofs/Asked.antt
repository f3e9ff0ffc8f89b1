-- The question of a whole sheet: it may be asked, and its answers are the sheet's solutions. Assumes nothing.
use mathlib.Core.Path.{◌≡◌, refl, ap, sym, subst, ◌∙◌}
use mathlib.Core.List.{List}
use mathlib.Core.Bool.{Bool}
use Prim.Native.Nat.{ℕ, zero, suc}
use native.Mathlib.Omega.{arith}
use lib.ListN.{get_or, replicate}
use Rattle.std.specs.declared.option.Option.{Option}
use Rattle.std.specs.declared.option.Option.TheVariants as option
use Rattle.model.specs.Lists.{All}
use Rattle.model.specs.Sheet.{Sheet, sheet_of}
use Rattle.model.specs.Range.{Admitted}
use Rattle.model.specs.Word.{Substitution, EquationHolds, ConstraintHolds, Solves}
use Rattle.model.proofs.Words.{keeps_every}
use Rattle.fields.specs.declared.Field.{Field}
use Rattle.inequalities.specs.Asked.{asked}
use Rattle.inequalities.proofs.Asked.{asked-all}
use Rattle.question.specs.declared.Ask.{Ask}
use Rattle.question.specs.Ask.{Asking, Answers, Finds}
use Rattle.question.proofs.Instances.{text_size}
use Rattle.solution.specs.Whole.{Whole, Settles}

pub zeros : (n k : ℕ) → get_or {A = ℕ} (replicate n 0) k 0 ≡ 0
zeros zero k = refl
zeros (suc n) zero = refl
zeros (suc n) (suc k) = zeros n k

module _ (b : List ℕ) (ok : Admitted b) (a : Ask) (whole : Whole (sheet_of b) a) where
  abbrev s : Sheet
  s = sheet_of b

  pub whole_asks : Asking s a
  whole_asks = record {
    ranges = λ f h. let z = whole.from_none f h in omega arith;
    limited = λ f h. let z = whole.to_limits f h in omega arith;
  }

  equations-asked : asked a.equations s.equations ≡ s.equations
  equations-asked = ap (λ ms. asked ms s.equations) whole.all_equations ∙ asked-all s.equations ok.1.counts_in.of_equations.1

  constraints-asked : asked a.constraints s.constraints ≡ s.constraints
  constraints-asked = ap (λ ms. asked ms s.constraints) whole.all_constraints ∙ asked-all s.constraints ok.1.counts_in.of_constraints

  pub solves_answers : (g : Substitution) → Solves s g → Answers s a g
  solves_answers g h = record {
    is_legal = h.is_legal;
    within = λ f k. let none = whole.from_none f k in let most = whole.to_limits f k in let size = text_size b ok g h.is_legal f k in (omega arith, omega arith);
    equations_hold = subst (All (EquationHolds s g)) (sym equations-asked) h.equations_hold;
    constraints_hold = subst (All (ConstraintHolds s g)) (sym constraints-asked) h.constraints_hold;
  }

  pub answers_solve : (g : Substitution) → Answers s a g → Solves s g
  answers_solve g h = record {
    is_legal = h.is_legal;
    equations_hold = subst (All (EquationHolds s g)) equations-asked h.equations_hold;
    constraints_hold = subst (All (ConstraintHolds s g)) constraints-asked h.constraints_hold;
    keeps_all = keeps_every s g;
  }

  -- what answers the question settles the sheet
  pub finds_settles : (first : Bool) (r : Option (List Field)) → Finds b a first r → Settles b first r
  finds_settles first option.None none = λ g h. none g (solves_answers g h)
  finds_settles first (option.Some h) found = record {
    held = found.held;
    solution = answers_solve _ found.answer;
    is_first = λ asked. record { is_solution = answers_solve _ found.answer; none_before = λ g k. found.earliest asked g (solves_answers g k) };
  }
