-- `finding::sum_at` meets its contract. Assumes nothing.
use Rattle.model.specs.Sheet.{sheet_of}
use Rattle.numbering.proofs.Laws.{number_fits, add_fits, add_back}
use Rattle.finding.proofs.sum_at.Goals as goal

pub overflow_cast-result : goal.overflow_cast-result
overflow_cast-result c =
    let s = sheet_of c.args.sheet.now in
    number_fits s c.requires.0.1 c.args.r c.requires.1 c.args.k c.requires.2 c.args.n c.requires.3

pub overflow_add-result : goal.overflow_add-result
overflow_add-result c =
    let s = sheet_of c.args.sheet.now in
    add_fits s c.requires.0.1 c.args.r c.requires.1 c.args.k c.requires.2 c.args.n c.requires.3 c.least.result c.least.ensures

pub returns : goal.returns
returns c =
    let s = sheet_of c.args.sheet.now in
    add_back s c.requires.0.1 c.args.r c.requires.1 c.args.k c.requires.2 c.args.n c.requires.3 c.least.result c.least.ensures
