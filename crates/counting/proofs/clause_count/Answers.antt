-- `counting::clause_count` meets its contract. Assumes nothing.
use native.Mathlib.Omega.{arith}
use Rattle.model.specs.Sheet.{sheet_of}
use Rattle.formula.proofs.Small.{clauses_small}
use Rattle.model.proofs.Templates.{well_formed}
use Rattle.formula.proofs.Totals.{clause_count_lem}
use Rattle.counting.proofs.Laws.{clauses_known}
use Rattle.counting.proofs.clause_count.Goals as goal

pub returns : goal.returns
returns c =
    let at-section-count = c.section_count in
    let s = sheet_of c.args.sheet.now in
    let n = clauses_known s c.requires.1 in
    let small = clauses_small s c.requires.1 in
    let is = clause_count_lem s (well_formed s c.requires.1) in
    (omega (arith, at-section-count.ensures, c.section_count-2.ensures, c.section_count-3.ensures), omega (arith, at-section-count.ensures, c.section_count-2.ensures, c.section_count-3.ensures))
