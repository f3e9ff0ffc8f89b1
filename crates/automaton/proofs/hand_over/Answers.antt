-- `automaton::hand_over` meets its contract: what is found solves the sheet, so that it passes the check, and it is the first solution; where nothing
-- is found nothing solves it. Assumes nothing.
use mathlib.Core.Path.{refl, sym, ap, ◌∙◌}
use mathlib.Core.List.{◌++◌}
use Prim.Native.Nat.{◌*◌}
use lib.ListN.{take, drop}
use Rattle.model.specs.Filling.{encode_filling}
use Rattle.model.proofs.Lists.{never}
use Rattle.model.proofs.Words.{solves_in}
use Rattle.parts.proofs.Known.{lent_bytes}
use Rattle.calls.proofs.Searching.{search_apart, search_clash}
use Rattle.fields.specs.Memory.{texts_of, meaning}
use Rattle.automaton.proofs.hand_over.Goals as goal

pub returns-then-solves : goal.returns-then-solves
returns-then-solves c =
    let b = c.args.sheet.now in
    let buf = c.args.buf.now in
    let g = c.in-Some.g in
    search_clash b buf c.requires.0.0 c.requires.1 (lent_bytes b c.type_inv.sheet) c.store.new.buf (meaning b g) (c.in-Some.ensures.is_first refl)
    (c.store.ensures ∙ ap (λ k. encode_filling (take k (texts_of g)) ++ drop (9 * k) buf) c.fields.ensures)

-- what is found passes the check
pub returns-else-solves : goal.returns-else-solves
returns-else-solves c = never (sym (sym c.solves.ensures ∙ c.if-solves.false) ∙ solves_in _ _ c.in-Some.ensures.solution)

pub returns-in_default : goal.returns-in_default
returns-in_default c = search_apart c.args.sheet.now c.args.buf.now c.requires.0.0 c.requires.1 c.in_default.ensures
