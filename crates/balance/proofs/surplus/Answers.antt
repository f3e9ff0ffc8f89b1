-- `balance::surplus` meets its contract. Assumes nothing.
use Rattle.model.specs.Sheet.{sheet_of}
use Rattle.balance.proofs.Joined.{template-few}
use Rattle.balance.proofs.surplus.Goals as goal

pub occurrences-left-requires : goal.occurrences-left-requires
occurrences-left-requires c =
    rw c.template.ensures (template-few (sheet_of c.args.sheet.now) c.requires.0.1 c.args.p c.requires.1 0)

pub occurrences-right-requires : goal.occurrences-right-requires
occurrences-right-requires c =
    rw c.template-2.ensures (template-few (sheet_of c.args.sheet.now) c.requires.0.1 c.args.p c.requires.1 1)
