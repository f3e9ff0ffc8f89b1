-- `vectors_check::show_difference` meets its contract: a filling that clashes is one that can be loaded, and fits the buffer. Assumes nothing.
use Rattle.std.proofs.Common.{◌≡◌, length, sym, ap, ◌∙◌, arith, length-take-le}
use Rattle.model.specs.Sheet.{Counts, sheet_of}
use Rattle.model.proofs.Fillings.{filling-sized}
use Rattle.parts.proofs.Known.{lent_bytes}
use Rattle.report.proofs.Sizes.{clash_ready}
use Rattle.vectors_check.proofs.show_difference.Goals as goal

-- it was read whole
pub four_counts-requires : goal.four_counts-requires
four_counts-requires g c = (clash_ready c.args.sheet.now c.args.filling.now (lent_bytes c.args.sheet.now c.type_inv.sheet) c.requires).0

pub load-requires : goal.load-requires
load-requires g c = clash_ready c.args.sheet.now c.args.filling.now (lent_bytes c.args.sheet.now c.type_inv.sheet) c.requires

-- as many fields as the sheet has
pub store-requires : goal.store-requires
store-requires g c =
    let held = c.load.ensures.0 in
    let n : c.from-fields.result ≡ length (sheet_of c.args.sheet.now).limits = c.from-fields.ensures ∙ ap (λ (n : Counts). n.field_count) c.four_counts.ensures in
    let few = held.in_range.counts_in.of_fields in
    (held.whole, held.six, omega arith, omega arith)

pub slice_bounds-buf-end : goal.slice_bounds-buf-end
slice_bounds-buf-end g c =
    omega (arith, c.store.auto.buf, filling-sized (sheet_of c.args.sheet.now) c.args.filling.now c.load.ensures.1, c.load.ensures.0.in_range.counts_in.of_fields)

pub slice_bounds-ne-end : goal.slice_bounds-ne-end
slice_bounds-ne-end g c =
    sym (length-take-le (length c.args.filling.now) c.store.new.buf
    (omega (arith, c.store.auto.buf, filling-sized (sheet_of c.args.sheet.now) c.args.filling.now c.load.ensures.1, c.load.ensures.0.in_range.counts_in.of_fields)))
