-- `fields::load` meets its contract: what is loaded of an admitted filling means what was read. Assumes nothing.
use mathlib.Core.Path.{◌≡◌, ap, subst, sym, ◌∙◌}
use mathlib.Core.List.{[]}
use Rattle.model.specs.Sheet.{Counts, got, sheet_of}
use Rattle.model.specs.Filling.{filling}
use Rattle.parts.proofs.Known.{lent_bytes}
use Rattle.fields.specs.Memory.{meaning, Held}
use Rattle.fields.proofs.Laws.{can_load, loaded-held}
use Rattle.fields.proofs.load.Goals as goal

pub load_fields-requires : goal.load_fields-requires
load_fields-requires c =
    let a = c.args in
    let counted = c.from.ensures ∙ ap (λ (n : Counts). n.field_count) c.four_counts.ensures in
    can_load a.sheet.now a.bytes.now c.from.result (lent_bytes a.sheet.now c.shared_slice_known-1.given) c.requires.0 c.requires.1 counted

pub returns : goal.returns
returns c =
    let b = c.args.sheet.now in
    let m = c.args.bytes.now in
    let counted = c.from.ensures ∙ ap (λ (n : Counts). n.field_count) c.four_counts.ensures in
    subst (λ g. Held b g × (filling (sheet_of b) m ≡ got (meaning b g) [])) (sym c.load_fields.ensures)
    (loaded-held b m c.from.result (lent_bytes b c.shared_slice_known-1.given) c.requires.0 c.requires.1 counted)
