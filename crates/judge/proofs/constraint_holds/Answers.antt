-- `judge::constraint_holds` meets its contract: both numbers are read back as they were stored. Assumes nothing.
use mathlib.Core.Path.{ap, ◌∙◌}
use native.Mathlib.Omega.{arith}
use lib.ListN.{length}
use mir.Syntax.{w16}
use mir.Val.{to_z, of_z}
use Rattle.model.specs.Sheet.{sheet_of, constraint}
use Rattle.model.specs.Word.{weight, constraint_holds}
use Rattle.scan.proofs.Machine.{small_back}
use Rattle.fields.specs.Memory.{meaning}
use Rattle.judge.proofs.Weights.{limited, sum_small}
use Rattle.scan.proofs.Terms.{most_back}
use Rattle.judge.proofs.constraint_holds.Goals as goal

pub weigh-requires : goal.weigh-requires
weigh-requires c = c.requires

pub most-requires : goal.most-requires
most-requires c =
    (c.requires.0.accepted, c.requires.1)

pub returns : goal.returns
unfolding constraint_holds
returns c =
    let a = c.args in
    let v = length (sheet_of a.sheet.now).limits in
    let r = constraint (sheet_of a.sheet.now) a.r in
    let small = sum_small a.sheet.now a.g c.requires.0 a.r c.requires.1 v (omega arith) in
    let sum = ap (λ z. to_z w16 (of_z w16 z)) c.weigh.ensures ∙ small_back w16 (weight r (meaning a.sheet.now a.g) v) (omega arith) in
    let most = ap (λ z. to_z w16 (of_z w16 z)) c.most.ensures ∙ most_back r.most (limited a.sheet.now a.g c.requires.0 a.r c.requires.1).most_in in
    rw (sum, most)
