-- `rendering::put_file` meets its contract: line 0 and the three sections. Assumes nothing.
use mathlib.Core.Path.{sym, ap, ◌∙◌}
use mathlib.Core.List.{List, [], ◌∷◌, ◌++◌}
use Prim.Native.Nat.{ℕ}
use native.Mathlib.Omega.{arith}
use Rattle.model.specs.Sheet.{Sheet, sheet_of}
use Rattle.formula.specs.Count.{Section, of_fields, of_equations, of_constraints}
use Rattle.formula.specs.Dimacs.{problem_line, file}
use Rattle.formula.proofs.Lines.{first-line}
use Rattle.model.proofs.Templates.{well_formed}
use Rattle.model.proofs.Writing.{Writing, joined, begin, fits, next, ends}
use Rattle.rendering.specs.Lines.{section_lines}
use Rattle.rendering.proofs.Whole.{file-is}
use Rattle.rendering.proofs.put_file.Goals as goal
use Rattle.rendering.proofs.put_file.Lts as lts
use Rattle.rendering.proofs.put_file.Reads as reads
use Rattle.rendering.proofs.put_file.Tie as tie

-- the pieces, and what is still to be written of them
module _ (c : lts.After-clause_count tie.the-claims reads.Pre reads.Post) where
  abbrev start_of : lts.Start tie.the-claims reads.Pre reads.Post
  start_of = c.before.before.before.before

  abbrev s : Sheet
  s = sheet_of start_of.args.sheet.now

  abbrev section : Section → List ℕ
  section = section_lines s

  abbrev first : List ℕ
  first = problem_line c.variable_count-variables.result c.clause_count-clauses.result

  abbrev Still : List ℕ → List (List ℕ) → List ℕ → ℕ → Type 0
  Still = Writing start_of.args.buf.now 0 (file s)

  begun : Still first (section of_fields ∷ section of_equations ∷ section of_constraints ∷ []) start_of.args.buf.now 0
  unfolding joined
  begun =
      let e = first-line s c.variable_count-variables.result c.clause_count-clauses.result c.variable_count-variables.ensures.0 c.clause_count-clauses.ensures.0 in
      begin _ _ _ _ _ (file-is s (well_formed s start_of.requires.0.1) ∙ ap (λ w. w ++ (section of_fields ++ (section of_equations ++ section of_constraints))) (sym e)) (omega (arith, start_of.requires.1))

abbrev known : lts.After-problem_line tie.the-claims reads.Pre reads.Post → lts.After-clause_count tie.the-claims reads.Pre reads.Post
known c = c.before.before

after_first : (c : lts.After-problem_line tie.the-claims reads.Pre reads.Post) → Still (known c) (section (known c) of_fields) (section (known c) of_equations ∷ section (known c) of_constraints ∷ []) c.problem_line-first.new.buf c.problem_line-first.result
after_first c = next {b' = c.problem_line-first.new.buf} (begun (known c)) c.problem_line-first.ensures c.problem_line-first.auto.buf

abbrev first_of : lts.After-put_section tie.the-claims reads.Pre reads.Post → lts.After-problem_line tie.the-claims reads.Pre reads.Post
first_of c = c.before.before.before.before

after-fields : (c : lts.After-put_section tie.the-claims reads.Pre reads.Post) → Still (known (first_of c)) (section (known (first_of c)) of_equations) (section (known (first_of c)) of_constraints ∷ []) c.put_section-a.new.buf c.put_section-a.result
after-fields c = next {b' = c.put_section-a.new.buf} (after_first (first_of c)) c.put_section-a.ensures c.put_section-a.auto.buf

abbrev fields-of : lts.After-put_section2 tie.the-claims reads.Pre reads.Post → lts.After-put_section tie.the-claims reads.Pre reads.Post
fields-of c = c.before.before.before.before

after-equations : (c : lts.After-put_section2 tie.the-claims reads.Pre reads.Post) → Still (known (first_of (fields-of c))) (section (known (first_of (fields-of c))) of_constraints) [] c.put_section-b.new.buf c.put_section-b.result
after-equations c = next (after-fields (fields-of c)) c.put_section-b.ensures c.put_section-b.auto.buf

pub problem_line-first-requires : goal.problem_line-first-requires
problem_line-first-requires c = omega (arith, fits (begun c.before.before))

pub put_section-a-requires : goal.put_section-a-requires
put_section-a-requires c =
    ((start_of (known c.before.before.before.before)).requires.0, fits (after_first c.before.before.before.before))

pub put_section-b-requires : goal.put_section-b-requires
put_section-b-requires c =
    ((start_of (known (first_of c.before.before.before.before))).requires.0, fits (after-fields c.before.before.before.before))

pub put_section-requires : goal.put_section-requires
put_section-requires c =
    ((start_of (known (first_of (fields-of c.before.before.before.before)))).requires.0, fits (after-equations c.before.before.before.before))

pub returns : goal.returns
returns c =
    ends _ _ (after-equations c.before.before.before.before.before.before.before) c.put_section.ensures c.put_section.auto.buf
