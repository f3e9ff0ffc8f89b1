-- `gathering::put_row` meets its contract. Assumes nothing.
use mathlib.Core.Path.{refl, ◌∙◌}
use Prim.Native.Nat.{◌*◌}
use native.Mathlib.Omega.{arith}
use lib.ListN.{length}
use Rattle.std.proofs.lemmas.Slice.{put_mid-paste}
use Rattle.model.proofs.Seams.{placed_paste}
use Rattle.gathering.proofs.put_row.Goals as goal

pub returns : goal.returns
returns c =
    let a = c.args in
    put_mid-paste (14 * a.i) _ a.rows.now _ a.row (length a.row) c.copy_from_slice.ensures.after (omega (arith, c.well_formed)) refl ∙ placed_paste a.rows.now a.row (14 * a.i)
