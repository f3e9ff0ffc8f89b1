-- `c_book::book` meets its contract: what comparing answers, handed over; a list has few pairs. Assumes nothing.
use mathlib.Core.Path.{refl, sym, ◌∙◌}
use mathlib.Core.List.{[], ◌∷◌}
use lib.ListN.{length}
use mir.Facts.{to_z-of_z}
use mir.Syntax.{w64}
use Rattle.calls.specs.Calls.{comparing}
use Rattle.calls.proofs.Comparing.{few}
use Rattle.parts.proofs.Known.{lent_bytes}
use Rattle.c_book.proofs.Counts.{few-pairs, returned_counts}
use Rattle.c_book.proofs.book.Goals as goal

pub counted-requires : goal.counted-requires
counted-requires c =
    let a = c.args in
    few-pairs c.compare.result
    (λ n e. few a.book.now a.list.now c.compare.new.list (n ∷ []) (lent_bytes a.book.now c.type_inv.book) n refl (sym e ∙ c.compare.ensures.0, c.compare.ensures.1))

pub returns : goal.returns
returns c =
    let a = c.args in
    let whole = returned_counts (comparing a.book.now (length a.list.now)) c.compare.result c.counted.result a.list.now c.compare.new.list c.compare.ensures c.counted.ensures in
    (to_z-of_z {w = w64} (record { sfits = c.counted.type_inv }) ∙ whole.0, whole.1)
