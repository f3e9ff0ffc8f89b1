-- `fields::store_field` meets its contract: the length and the letters come to the front. Assumes nothing.
use mathlib.Core.Path.{sym, ap, ◌∙◌}
use lib.ListN.{length}
use Rattle.fields.specs.Memory.{field_bytes}
use Rattle.fields.proofs.Laws.{store_front}
use Rattle.fields.proofs.store_field.Goals as goal

pub returns : goal.returns
unfolding field_bytes
returns c =
    let v = c.args.field in
    let same = c.copy_from_slice.ensures.after in
    rw same (store_front c.args.buf.now v.letters v.len c.requires (sym (ap length same) ∙ c.copy_from_slice.ensures.len))
