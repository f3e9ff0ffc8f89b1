-- `size_file::file_size` meets its contract. Assumes nothing.
use native.Mathlib.Omega.{arith}
use Rattle.model.specs.Sheet.{sheet_of}
use Rattle.formula.proofs.Totals.{clause_count_lem}
use Rattle.formula.proofs.Small.{variables-small, clauses_small}
use Rattle.model.proofs.Templates.{well_formed}
use Rattle.size_file.proofs.Laws.{size_sections}
use Rattle.size_file.proofs.file_size.Goals as goal

pub problem_size-first-requires : goal.problem_size-first-requires
problem_size-first-requires c =
    let s = sheet_of c.args.sheet.now in
    let ok = c.requires.0.1 in
    (omega (arith, c.requires.1, variables-small s ok), omega (arith, c.requires.2, clause_count_lem s (well_formed s ok), clauses_small s ok))

pub returns : goal.returns
returns c =
    let third = c.before.before in
    let second = third.before in
    let first = second.before in
    let a = first.args in
    let all = size_sections (sheet_of a.sheet.now) first.requires.0.1 a.variables a.clauses first.requires.1 first.requires.2 in (
      omega (arith, first.problem_size-first.ensures.0, second.section_size-fields.ensures.0, third.section_size-equations.ensures.0, c.section_size-constraints.ensures.0),
      omega (arith, first.problem_size-first.ensures.1, second.section_size-fields.ensures.1, third.section_size-equations.ensures.1, c.section_size-constraints.ensures.1),
    )
