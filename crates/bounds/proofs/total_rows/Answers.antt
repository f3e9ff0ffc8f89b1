-- `bounds::total_rows` meets its contract. Assumes nothing.
use mathlib.Core.Path.{refl}
use Rattle.model.specs.Lists.{from}
use Rattle.bounds.proofs.total_rows.Goals as goal

pub returns : goal.returns
unfolding from
returns c = refl
