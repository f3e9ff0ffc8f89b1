-- `words::put` meets its contract. Assumes nothing.
use mathlib.Core.Path.{refl, ◌∙◌}
use native.Mathlib.Omega.{arith}
use lib.ListN.{length}
use Rattle.std.proofs.lemmas.Slice.{put_mid-paste}
use Rattle.model.proofs.Seams.{placed_paste}
use Rattle.words.proofs.put.Goals as goal

pub returns : goal.returns
returns c =
    let piece = c.args.piece.now in
    (refl, put_mid-paste c.args.at _ c.args.buf.now _ piece (length piece) c.copy_from_slice.ensures.after (omega arith) refl ∙ placed_paste c.args.buf.now piece c.args.at)
