-- The clauses ask the sheet's question: for the bytes b of every accepted sheet, with no other hypothesis. When an assignment satisfies the
-- clauses is said of the bytes of the lines (`Satisfies` in specs/Assignment). The proof goes over named clauses and variables
-- (`Solutions.antt`) and is carried to numbers and bytes by the laws of the numbering and the lines (`Satisfying.antt`).
use mathlib.Core.Path.{◌≡◌, sym, ap, subst, ◌∙◌}
use mathlib.Core.Logic.{◌↔◌}
use mathlib.Core.List.{List}
use Prim.Native.Nat.{ℕ, ◌<◌}
use Rattle.model.specs.Sheet.{Sheet, limit, Accepted, sheet_of}
use Rattle.model.specs.Word.{Substitution, Legal, Solves}
use Rattle.formula.specs.Clause.{Variable, K, fields}
use Rattle.formula.specs.Numbering.{VariableIn}
use Rattle.formula.specs.Assignment.{Assignment, Satisfies, OneValue, spelled}
use Rattle.model.proofs.Templates.{accepted_well_formed}
use Rattle.formula.proofs.Numbering.{variable_of, variable_of_lem}
use Rattle.formula.proofs.Terms.{named, Reads}
use Rattle.formula.proofs.KClauses.{one_value, reads_spelled}
use Rattle.formula.proofs.Solutions.{valuation, valuation_reads, met_solves, solves_met}
use Rattle.formula.proofs.Satisfying.{Alike, satisfies_met, met_satisfies, satisfies_alike, spelled_alike}

-- The assignment of a substitution: the number of each variable is made what the substitution makes of that variable.
unfoldable pub assign : Sheet → Substitution → Assignment
assign s g n = valuation s g (variable_of s n)

assign_names : (s : Sheet) (g : Substitution) (x : Variable) → VariableIn s x → valuation s g x ≡ named s (assign s g) x
unfolding assign
assign_names s g x h = ap (valuation s g) (sym (variable_of_lem s x h))

assign_reads : (s : Sheet) (g : Substitution) → Reads s (named s (assign s g)) g
assign_reads s g f c a h k l = sym (assign_names s g (K f c a) ((h, k), l)) ∙ valuation_reads s g f c a h k l

module _ (b : List ℕ) (ok : Accepted b) where
  abbrev s : Sheet
  s = sheet_of b

  -- "An assignment makes each variable, from 1 to the variable count, true or false": what it makes of other numbers decides nothing.
  pub only-variables : (w u : Assignment) → Alike s w u → (Satisfies s w ↔ Satisfies s u) × (spelled s w ≡ spelled s u)
  only-variables w u alike = (
    (satisfies_alike s w u alike (accepted_well_formed b ok), satisfies_alike s u w (λ n l m. sym (alike n l m)) (accepted_well_formed b ok)),
    spelled_alike s w u alike,
  )

  -- Demand 3: "The clauses can be satisfied .. when there is a filling that clashes". The assignment of a solution satisfies them.
  pub complete : (g : Substitution) → Solves s g → Satisfies s (assign s g)
  complete g h =
      met_satisfies s (accepted_well_formed b ok) (valuation s g) (assign s g) (assign_names s g) (solves_met s (accepted_well_formed b ok) g h)

  -- "satisfied clauses leave just one true value at each place, in fields no template uses too"; and what a satisfying assignment spells is a
  -- filling, "a text over the letters, no longer than its limit" for each field, and clashes.
  pub sound : (w : Assignment) → Satisfies s w → ((f c : ℕ) → f < fields s → c < limit s f → OneValue s w f c) × Legal s (spelled s w) × Solves s (spelled s w)
  sound w h =
      let met = satisfies_met s w h in
      let solution = met_solves s (accepted_well_formed b ok) w met in
      ((λ f c k l. one_value s w f c (met.places f c k l)), solution.is_legal, solution)

  -- "It spells the filling that gives each field f, from place 0 up to the first blank or the limit, at place c the letter a for which
  -- K(f,c,a) is true": the assignment of a filling spells it, and so that of a solution spells that solution.
  pub faithful : (g : Substitution) → Legal s g → spelled s (assign s g) ≡ g
  faithful g legal = reads_spelled s (assign s g) g legal (assign_reads s g)

  -- Demand 3: "The clauses can be satisfied exactly when there is a filling that clashes."
  pub satisfiable : ((w : Assignment) × Satisfies s w) ↔ ((g : Substitution) × Solves s g)
  satisfiable = ((λ a. (spelled s a.0, (sound a.0 a.1).2)), (λ c. (assign s c.0, complete c.0 c.1)))

  -- the same, one by one: the solutions are just the substitutions that satisfying assignments spell
  pub solutions_are : (g : Substitution) → Solves s g ↔ ((w : Assignment) × Satisfies s w × (spelled s w ≡ g))
  solutions_are g = ((λ h. (assign s g, complete g h, faithful g h.is_legal)), (λ a. subst (Solves s) a.2 (sound a.0 a.1).2))
