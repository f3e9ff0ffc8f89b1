-- `c_hours::book_hours` meets its contract: what comparing with hours answers, handed over; a list has few pairs. Assumes nothing.
use mathlib.Core.Path.{refl, sym, ◌∙◌}
use mathlib.Core.List.{[], ◌∷◌}
use lib.ListN.{length}
use mir.Facts.{to_z-of_z}
use mir.Syntax.{w64}
use Rattle.calls.specs.Calls.{comparing_hours}
use Rattle.calls.proofs.Comparing.{few_with_hours}
use Rattle.parts.proofs.Known.{lent_bytes}
use Rattle.c_book.proofs.Counts.{few-pairs, returned_counts}
use Rattle.c_hours.proofs.book_hours.Goals as goal

pub counted-requires : goal.counted-requires
counted-requires c =
    let a = c.args in
    few-pairs c.compare.result
    (λ n e. few_with_hours a.book.now a.list.now c.compare.new.list (n ∷ []) (lent_bytes a.book.now c.type_inv.book) n refl a.hours.now (sym e ∙ c.compare.ensures.0, c.compare.ensures.1))

pub returns : goal.returns
returns c =
    let a = c.args in
    let whole = returned_counts (comparing_hours a.book.now a.hours.now (length a.list.now)) c.compare.result c.counted.result a.list.now c.compare.new.list c.compare.ensures c.counted.ensures in
    (to_z-of_z {w = w64} (record { sfits = c.counted.type_inv }) ∙ whole.0, whole.1)
