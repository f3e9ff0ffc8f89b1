-- `shape::expand` meets its contract: what is put from the front on are the cells of the side, as many as it is wide. Assumes nothing.
use Rattle.shape.proofs.Laws.{can_put, put_expands}
use Rattle.shape.proofs.expand.Goals as goal

pub put_cells-width-requires : goal.put_cells-width-requires
put_cells-width-requires c =
    can_put c.args.sheet.now c.requires.0 c.args.p c.requires.1 c.args.side c.template.result.now c.template.ensures

pub returns : goal.returns
returns c =
    let at-template = c.template in
    put_expands c.args.sheet.now c.requires.0 c.args.p c.requires.1 c.args.side at-template.result.now at-template.ensures c.put_cells-width.new.buf c.put_cells-width.result c.put_cells-width.ensures
