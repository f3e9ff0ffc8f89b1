-- `inequalities::making::coefficient` meets its contract: a constraint has one coefficient for each field of the sheet. Assumes nothing.
use mathlib.Core.Path.{sym}
use mathlib.Core.List.{[]}
use native.Mathlib.Omega.{arith}
use lib.IntN.{pos}
use lib.ListN.{length, get_or-eq_default}
use Rattle.model.specs.Sheet.{sheet_of, constraint}
use Rattle.model.specs.Range.{ConstraintIn}
use Rattle.model.proofs.Lists.{at}
use Rattle.inequalities.proofs.making.coefficient.Goals as goal

pub returns-else-f-fields : goal.returns-else-f-fields
returns-else-f-fields c =
    let s = sheet_of c.args.sheet.now in
    let r = constraint s c.args.r in
    let this = at (ConstraintIn (length s.limits)) s.constraints c.args.r (record { coefficients = []; most = pos 0 }) c.requires.0.1.constraints_in c.requires.1 in
    sym (get_or-eq_default r.coefficients (pos 0) (omega (arith, this.one_each, c.fields.ensures)))
