-- `counting::survey` meets its contract. Assumes nothing.
use native.Mathlib.Omega.{arith}
use Rattle.model.specs.Sheet.{sheet_of}
use Rattle.counting.proofs.Laws.{bytes_cells}
use Rattle.counting.proofs.survey.Goals as goal

pub census_of-requires : goal.census_of-requires
census_of-requires c =
    let at_width = c.before.before in
    let at-letters = at_width.before in
    let s = sheet_of at-letters.args.sheet.now in
    (omega (arith, at-letters.letters-letters.ensures, at-letters.requires.0.1.counts_in.of_letters), at_width.width-n.ensures.1, bytes_cells s at-letters.requires.0.1 at-letters.args.p at-letters.requires.1 c.side.result at_width.width-n.result c.side.ensures at_width.width-n.ensures.0)
